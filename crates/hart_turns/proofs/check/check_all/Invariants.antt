use Rattle.std.proofs.Common.{length}
use Rattle.race_core.specs.Parts.{left_of}
use Rattle.shared_table.specs.Seats.{IsSeatOf}
use Rattle.hart_turns.specs.Checks.{Half}
use Rattle.hart_turns.proofs.check.check_all.Given as goal

abbrev pub invariant-parts : goal.invariant-parts
invariant-parts l =
    IsSeatOf l.shared l.seat
    × Half l.image l.watcher l.event l.place l.initial.checks l.checks l.initial.seat.me l.seat.me (left_of l.parts) l.raced

abbrev pub decreases-parts : goal.decreases-parts
decreases-parts l = length (left_of l.parts)

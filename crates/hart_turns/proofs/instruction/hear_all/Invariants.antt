use Rattle.std.proofs.Common.{◌≡◌, ◌+◌}
use Rattle.shared_table.specs.Seats.{IsSeatOf}
use Rattle.hart_turns.specs.Checks.{MadeSteps}
use Rattle.hart_turns.specs.Places.{IsPlace, SameBare}
use Rattle.hart_turns.proofs.AllEvents.{Sofar}
use Rattle.hart_turns.proofs.instruction.hear_all.Given as goal

abbrev pub invariant-loop-event : goal.invariant-loop-event
invariant-loop-event l =
    IsSeatOf l.shared l.seat
    × IsPlace l.limits l.number l.place
    × (l.at ≡ l.base + l.event-index)
    × MadeSteps l.initial.seat.me l.seat.me
    × Sofar l.image l.limits l.number l.tid l.given l.base l.event-index l.events l.initial.watcher l.watcher l.initial.place l.place
    l.initial.findings.checks l.findings.checks l.initial.findings.waiting.items l.findings.waiting.items l.initial.seat.me l.seat.me l.spent
    × SameBare l.initial.place l.place

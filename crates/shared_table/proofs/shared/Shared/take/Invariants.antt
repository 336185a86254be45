use Rattle.std.proofs.Common.{◌≡◌}
use Rattle.shared_table.specs.Seats.{IsSeatOf}
use Rattle.shared_table.proofs.shared.Shared.take.Given as goal

abbrev pub invariant-loop : goal.invariant-loop
invariant-loop g l = IsSeatOf l.self l.seat × (l.seat.me ≡ l.initial.seat.me)

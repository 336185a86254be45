use Rattle.std.proofs.Common.{◌≡◌}
use Rattle.shared_table.specs.Seats.{IsSeatOf, IsFree}
use Rattle.shared_table.proofs.tests.TurnerWorker.work.Given as goal

abbrev pub invariant-loop : goal.invariant-loop
invariant-loop g l = IsSeatOf l.shared l.seat × IsFree l.seat.me × (l.seat.me.0.number ≡ l.initial.seat.me.0.number) × (l.self.cell ≡ l.initial.self.cell)

abbrev pub invariant-loop-object : goal.invariant-loop-object
invariant-loop-object g l = IsSeatOf l.shared l.seat × IsFree l.seat.me × (l.seat.me.0.number ≡ l.initial.seat.me.0.number) × (l.self.cell ≡ l.initial.self.cell)

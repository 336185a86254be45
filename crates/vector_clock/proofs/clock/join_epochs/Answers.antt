use Rattle.std.proofs.Common.{arith}
use Rattle.vector_clock.proofs.ClockLaws.{joined-from_each}
use Rattle.vector_clock.proofs.clock.join_epochs.Goals as goal

pub returns : goal.returns
returns c = joined-from_each _ _ _ c.requires c.loop-sid.auto.mine (λ sid within. c.loop-sid.invariant.0 sid (omega arith))

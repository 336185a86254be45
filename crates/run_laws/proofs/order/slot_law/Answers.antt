use Rattle.std.proofs.Common.{arith}
use Rattle.run_laws.proofs.SlotLaw.{same_slot_ordered, same_slot_epochs}
use Rattle.run_laws.proofs.OwnerLaw.{later_owner}
use Rattle.run_laws.proofs.order.slot_law.Goals as goal

pub returns-clause-ordered : goal.returns-clause-ordered
returns-clause-ordered c = λ g h i j t u s l a b e. same_slot_ordered g h i j t u s a.event b.event l a.made b.made a.slot b.slot e

pub returns-clause-rising : goal.returns-clause-rising
returns-clause-rising c = λ g h i j t u s l a b e. same_slot_epochs g h i j t s a.event l a.made a.slot e

pub returns-clause-one_thread : goal.returns-clause-one_thread
returns-clause-one_thread c = λ g h i j t u s l a b e d. later_owner g h i j t u s a.event (omega arith) a.made a.slot b.slot e d

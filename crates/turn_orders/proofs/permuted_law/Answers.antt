use Rattle.turn_orders.proofs.Permuted.{same_members}
use Rattle.turn_orders.proofs.permuted_law.Goals as goal

pub returns : goal.returns
returns g c xs ys p = same_members xs ys p

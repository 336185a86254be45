use Rattle.turn_orders.proofs.Stamps.{found_at}
use Rattle.turn_orders.proofs.found_law.Goals as goal

pub returns : goal.returns
returns g c turn m early late d h = let f = found_at turn m early d late h in (f.0, f.1)

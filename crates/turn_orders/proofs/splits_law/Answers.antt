use Rattle.turn_orders.specs.Splits.{Passes}
use Rattle.turn_orders.proofs.Splits.{agrees}
use Rattle.turn_orders.proofs.splits_law.Goals as goal

pub returns : goal.returns
returns h c turn step see look local value may g m cs s w a = agrees turn step see look local value (Passes may) s g m cs w a

use Rattle.std.proofs.Common.{◌∷◌, ◌++◌}
use Rattle.turn_orders.specs.Splits.{Passes}
use Rattle.turn_orders.proofs.Sorting.{sorted_line}
use Rattle.turn_orders.proofs.Splits.{meets}
use Rattle.turn_orders.proofs.meets_law.Goals as goal

pub returns : goal.returns
returns h c turn step see look local value may local_stamp value_stamp g m xs early late d s v w a l o same =
    meets turn step see look local value (Passes may) s g m early d late v a (sorted_line turn local_stamp value_stamp m xs (early ++ d ∷ late) w l o same)

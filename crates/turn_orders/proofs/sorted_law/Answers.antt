use Rattle.turn_orders.proofs.Runs.{told_same}
use Rattle.turn_orders.proofs.Sorting.{sorted_line, same_end}
use Rattle.turn_orders.proofs.sorted_law.Goals as goal

pub returns : goal.returns
returns g c turn local_stamp value_stamp m xs ys w h s same =
    let l = sorted_line turn local_stamp value_stamp m xs ys w h s same in
    (l, told_same turn m ys l, same_end turn local_stamp value_stamp m xs ys w h s same)

use Rattle.woven_turns.specs.Cells.{among, EarlierBy}
use Rattle.woven_turns.proofs.Loading.{placed, load_rule}
use Rattle.woven_turns.proofs.loads_law.Goals as goal

pub returns : goal.returns
returns g c lay past loads stores pair first last h t a k w p i =
    load_rule lay past (among loads) (among stores) (EarlierBy pair) first last h (placed past loads stores pair first last t) a k w p i

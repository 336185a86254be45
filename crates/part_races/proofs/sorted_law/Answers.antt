use Rattle.part_races.proofs.Sorted.{sorted_round}
use Rattle.part_races.proofs.sorted_law.Goals as goal

pub returns : goal.returns
returns c file limits lay round era m r told keys h z s = sorted_round file limits era lay round m r h told keys z s

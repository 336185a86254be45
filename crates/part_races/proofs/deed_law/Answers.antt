use Rattle.part_races.proofs.Made.{deed_collects}
use Rattle.part_races.proofs.deed_law.Goals as goal

pub returns : goal.returns
returns c0 = deed_collects

use Rattle.part_growth.proofs.Growing.{object_grows}
use Rattle.part_growth.proofs.object_law.Goals as goal

pub returns : goal.returns
returns c = object_grows

use Rattle.part_growth.proofs.Growing.{local_grows}
use Rattle.part_growth.proofs.local_law.Goals as goal

pub returns : goal.returns
returns c = local_grows

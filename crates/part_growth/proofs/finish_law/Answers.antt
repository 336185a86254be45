use Rattle.part_growth.proofs.Finishing.{finish}
use Rattle.part_growth.proofs.finish_law.Goals as goal

pub returns : goal.returns
returns c = finish

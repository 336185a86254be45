use Rattle.part_growth.proofs.Growing.{begins_so_far}
use Rattle.part_growth.proofs.begins_law.Goals as goal

pub returns : goal.returns
returns c = begins_so_far

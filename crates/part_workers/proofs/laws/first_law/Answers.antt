use Rattle.part_workers.proofs.Keeping.{first_stands}
use Rattle.part_workers.proofs.laws.first_law.Goals as goal

pub returns : goal.returns
returns c = first_stands

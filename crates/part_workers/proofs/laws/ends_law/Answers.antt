use Rattle.part_workers.proofs.Resting.{ended}
use Rattle.part_workers.proofs.laws.ends_law.Goals as goal

pub returns : goal.returns
returns c = ended

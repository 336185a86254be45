use Rattle.race_core.proofs.FirstLaws.{first}
use Rattle.race_core.proofs.laws.first_law.Goals as goal

pub returns : goal.returns
returns c = first

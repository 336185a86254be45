use Rattle.race_core.proofs.StillLaws.{other}
use Rattle.race_core.proofs.laws.other_law.Goals as goal

pub returns : goal.returns
returns c = other

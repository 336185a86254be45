use Rattle.race_core.proofs.EventLaws.{rises, spent}
use Rattle.race_core.proofs.laws.raise_law.Goals as goal

pub returns-clause-rises : goal.returns-clause-rises
returns-clause-rises c = λ limits h m t w e label at. rises limits h m t w at e label

pub returns-clause-spent : goal.returns-clause-spent
returns-clause-spent c = λ limits h m t w e label at. spent limits h m t w at e label

use Rattle.race_core.proofs.EventLaws.{begins}
use Rattle.race_core.proofs.laws.era_law.Goals as goal

pub returns : goal.returns
returns c = λ limits h m t w at. begins limits h m t w at

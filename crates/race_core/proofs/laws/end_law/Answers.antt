use Rattle.race_core.proofs.EventLaws.{ends}
use Rattle.race_core.proofs.laws.end_law.Goals as goal

pub returns : goal.returns
returns c = λ limits h m t w at. ends limits h m t w at

use Rattle.race_core.proofs.EventLaws.{attaches}
use Rattle.race_core.proofs.laws.attach_law.Goals as goal

pub returns : goal.returns
returns c = λ limits h m t w label clock at. attaches limits h m t w at label clock

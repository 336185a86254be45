use Rattle.turn_laws.proofs.TurnLaw.{lawful-turn}
use Rattle.turn_laws.proofs.turns.turn_law.Goals as goal

pub returns : goal.returns
returns g c = λ limits bare granule_of entries turn old can. lawful-turn limits bare granule_of entries turn old can

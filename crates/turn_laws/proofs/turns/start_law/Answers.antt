use Rattle.turn_laws.proofs.WholeLaw.{lawful-start}
use Rattle.turn_laws.proofs.turns.start_law.Goals as goal

pub returns : goal.returns
returns g c = λ limits bare granule_of. lawful-start limits bare granule_of

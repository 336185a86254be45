use Rattle.turn_laws.proofs.AlikeLaw.{alike-rounds}
use Rattle.turn_laws.proofs.going.alike_law.Goals as goal

pub returns : goal.returns
returns c = alike-rounds

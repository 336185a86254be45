use Rattle.made_rounds.proofs.Told.{awaits_end, tells_end}
use Rattle.made_rounds.proofs.told_law.Goals as goal

pub returns-clause-awaits : goal.returns-clause-awaits
returns-clause-awaits c file limits lay past first xs x d earlier keys h tell one = awaits_end file limits lay past first xs x d h earlier keys tell one

pub returns-clause-tells : goal.returns-clause-tells
returns-clause-tells c file limits lay past first xs x d awaited h awaits = tells_end file limits lay past first xs x d h awaited awaits

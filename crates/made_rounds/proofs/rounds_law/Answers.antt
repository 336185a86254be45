use Rattle.made_rounds.proofs.Found.{have_rounds}
use Rattle.made_rounds.proofs.rounds_law.Goals as goal

pub returns : goal.returns
returns c file limits lay past first xs taken made logs = have_rounds file limits lay past first xs made taken logs

use Rattle.turn_laws.proofs.AlikeLaw.{one_more_era}
use Rattle.turn_laws.proofs.going.era_step.Goals as goal

pub returns : goal.returns
returns c = one_more_era

use Rattle.report_laws.proofs.GrownLaw.{last_round}
use Rattle.report_laws.proofs.grown.round_law.Goals as goal

pub returns : goal.returns
returns c = last_round

use Rattle.report_laws.proofs.GrownLaw.{awaits_stay}
use Rattle.report_laws.proofs.grown.awaits_law.Goals as goal

pub returns : goal.returns
returns c = awaits_stay

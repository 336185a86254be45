use Rattle.report_laws.proofs.GrownLaw.{found_stay}
use Rattle.report_laws.proofs.grown.found_law.Goals as goal

pub returns : goal.returns
returns c = found_stay

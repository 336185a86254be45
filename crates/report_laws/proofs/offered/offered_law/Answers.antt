use Rattle.report_laws.proofs.OfferedLaw.{offered}
use Rattle.report_laws.proofs.offered.offered_law.Goals as goal

pub returns : goal.returns
returns g c = offered

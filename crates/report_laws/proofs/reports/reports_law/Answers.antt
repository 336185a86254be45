use Rattle.report_laws.proofs.AwaitedLaw.{found_after}
use Rattle.report_laws.proofs.reports.reports_law.Goals as goal

pub returns : goal.returns
returns c = found_after

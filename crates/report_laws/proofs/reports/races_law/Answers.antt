use Rattle.report_laws.proofs.RaceReports.{races_kept}
use Rattle.report_laws.proofs.reports.races_law.Goals as goal

pub returns : goal.returns
returns c = races_kept

use Rattle.report_laws.proofs.RaceReports.{races_of}
use Rattle.report_laws.proofs.reports.stands_law.Goals as goal

pub returns : goal.returns
returns c = races_of

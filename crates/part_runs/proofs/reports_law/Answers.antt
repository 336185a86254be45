use Rattle.part_runs.proofs.Found.{offered}
use Rattle.part_runs.proofs.reports_law.Goals as goal

pub returns : goal.returns
returns c = offered

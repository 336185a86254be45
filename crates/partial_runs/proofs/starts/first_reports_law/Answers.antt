use Rattle.partial_runs.proofs.Found.{first_reports}
use Rattle.partial_runs.proofs.starts.first_reports_law.Goals as goal

pub returns : goal.returns
returns c = λ limits address_of meets entries later kept whole. first_reports meets limits address_of entries later kept whole

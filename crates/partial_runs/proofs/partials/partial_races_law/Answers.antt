use Rattle.partial_runs.proofs.PartialLaw.{partial_races}
use Rattle.partial_runs.proofs.partials.partial_races_law.Goals as goal

pub returns : goal.returns
returns c = λ mode file limits plan meets p few some most accepted partial. partial_races file limits plan meets mode p few some most accepted partial

use Rattle.partial_runs.proofs.PartialLaw.{begins}
use Rattle.partial_runs.proofs.partials.partial_law.Goals as goal

pub returns : goal.returns
returns c = λ file limits plan meets p f some partial run. begins file limits plan meets p f run partial some

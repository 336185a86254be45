use Rattle.partial_runs.proofs.PartialLaw.{nothing_is_partial}
use Rattle.partial_runs.proofs.partials.no_rounds_law.Goals as goal

pub returns : goal.returns
returns c = nothing_is_partial

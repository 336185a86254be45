use Rattle.partial_runs.proofs.PartialLaw.{whole_is_partial}
use Rattle.partial_runs.proofs.partials.whole_law.Goals as goal

pub returns : goal.returns
returns c = λ mode file limits plan meets f run. whole_is_partial file limits plan meets mode f run

use Rattle.partial_runs.proofs.PartialLaw.{at_round_end}
use Rattle.partial_runs.proofs.partials.round_end_law.Goals as goal

pub returns : goal.returns
returns c = λ mode file limits plan meets p kept lawful told reports output. at_round_end file limits plan meets mode p kept lawful told reports output

use Rattle.partial_runs.proofs.Output as output
use Rattle.partial_runs.proofs.starts.output_grows.Goals as goal

pub returns : goal.returns
returns c = output.output_grows

use Rattle.whole_runs.proofs.Runs.{seen}
use Rattle.whole_runs.proofs.seen_races_law.Goals as goal

pub returns : goal.returns
returns c = seen

use Rattle.whole_runs.proofs.Runs.{is_run}
use Rattle.whole_runs.proofs.run_law.Goals as goal

pub returns : goal.returns
returns c = is_run

use Rattle.same_run.proofs.Runs.{same_run}
use Rattle.same_run.proofs.same_run_law.Goals as goal

pub returns : goal.returns
returns c = same_run

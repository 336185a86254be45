use Rattle.made_rounds.proofs.Run.{run_made}
use Rattle.made_rounds.proofs.run_law.Goals as goal

pub returns : goal.returns
returns c = run_made

use Rattle.partial_runs.proofs.PutLaw.{answer_put}
use Rattle.partial_runs.proofs.puts.answer_law.Goals as goal

pub returns : goal.returns
returns c = answer_put

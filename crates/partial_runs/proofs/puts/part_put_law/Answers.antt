use Rattle.partial_runs.proofs.PutLaw.{part_put}
use Rattle.partial_runs.proofs.puts.part_put_law.Goals as goal

pub returns : goal.returns
returns c = λ job p f before now one some partial run put. part_put job p f one some run partial before now put

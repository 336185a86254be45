use Rattle.partial_runs.proofs.PutLaw.{cut_part, stopped_part}
use Rattle.partial_runs.proofs.puts.cut_part_law.Goals as goal

pub returns-clause-cut : goal.returns-clause-cut
returns-clause-cut c = cut_part

pub returns-clause-stopped : goal.returns-clause-stopped
returns-clause-stopped c = stopped_part

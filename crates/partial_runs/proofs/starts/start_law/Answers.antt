use Rattle.partial_runs.proofs.FirstRounds.{in_order, begins_whole}
use Rattle.partial_runs.proofs.starts.start_law.Goals as goal

pub returns-clause-in_order : goal.returns-clause-in_order
returns-clause-in_order g c = λ limits plan bare granule_of entries others local a b. in_order limits bare granule_of plan local entries others a b

pub returns-clause-whole : goal.returns-clause-whole
returns-clause-whole g c = λ limits plan bare granule_of entries others local a b. begins_whole limits bare granule_of plan local entries others a b

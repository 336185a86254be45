use Rattle.partial_runs.proofs.FirstRounds.{start_of, start_of_whole}
use Rattle.partial_runs.proofs.starts.lawful_start_law.Goals as goal

pub returns-clause-whole : goal.returns-clause-whole
returns-clause-whole g c = λ mode limits plan bare granule_of entries lawful. start_of_whole limits bare granule_of plan mode entries lawful

pub returns-clause-so_far : goal.returns-clause-so_far
returns-clause-so_far g c = λ limits plan bare granule_of entries lawful rounds. start_of limits bare granule_of plan entries lawful rounds

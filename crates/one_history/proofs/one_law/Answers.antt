use Rattle.one_history.proofs.Runs.{one, one_end}
use Rattle.one_history.proofs.one_law.Goals as goal

pub returns-clause-history : goal.returns-clause-history
returns-clause-history g c = λ limits plan bare granule_of entries others local a b. one limits bare granule_of plan local entries others a b

pub returns-clause-last_state : goal.returns-clause-last_state
returns-clause-last_state g c = λ limits plan bare granule_of entries others last end local a b run other. one_end limits bare granule_of plan local entries others last end a b run other

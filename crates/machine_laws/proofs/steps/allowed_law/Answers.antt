use Rattle.machine_laws.proofs.ThreadLaw.{one_kept, all_kept}
use Rattle.machine_laws.proofs.steps.allowed_law.Goals as goal

pub returns-clause-one : goal.returns-clause-one
returns-clause-one c = one_kept

pub returns-clause-all : goal.returns-clause-all
returns-clause-all c = all_kept

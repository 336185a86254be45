use Rattle.machine_laws.proofs.ThreadLaw.{local_raises, local_ends}
use Rattle.machine_laws.proofs.steps.local_law.Goals as goal

pub returns-clause-raises : goal.returns-clause-raises
returns-clause-raises c = local_raises

pub returns-clause-ends : goal.returns-clause-ends
returns-clause-ends c = local_ends

use Rattle.machine_laws.proofs.ThreadLaw.{depth_own, depth_other}
use Rattle.machine_laws.proofs.steps.depth_law.Goals as goal

pub returns-clause-own : goal.returns-clause-own
returns-clause-own c = depth_own

pub returns-clause-other : goal.returns-clause-other
returns-clause-other c = depth_other

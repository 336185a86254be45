use Rattle.machine_laws.proofs.ThreadLaw.{own, other}
use Rattle.machine_laws.proofs.steps.alive_law.Goals as goal

pub returns-clause-own : goal.returns-clause-own
returns-clause-own c = own

pub returns-clause-other : goal.returns-clause-other
returns-clause-other c = other

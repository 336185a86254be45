use Rattle.machine_laws.proofs.ThreadLaw.{start_alive, start_threads}
use Rattle.machine_laws.proofs.steps.start_law.Goals as goal

pub returns-clause-alive : goal.returns-clause-alive
returns-clause-alive c = start_alive

pub returns-clause-threads : goal.returns-clause-threads
returns-clause-threads c = start_threads

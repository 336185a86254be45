use Rattle.machine_laws.proofs.DeskLaw.{step_agrees}
use Rattle.machine_laws.proofs.desks.step_agrees.Goals as goal

pub returns : goal.returns
returns c = step_agrees

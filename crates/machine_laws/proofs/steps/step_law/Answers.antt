use Rattle.machine_laws.proofs.StepLaw.{step_is}
use Rattle.machine_laws.proofs.steps.step_law.Goals as goal

pub returns : goal.returns
returns c = step_is

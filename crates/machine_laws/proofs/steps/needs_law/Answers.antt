use Rattle.machine_laws.proofs.NeedLaw.{needs_is}
use Rattle.machine_laws.proofs.steps.needs_law.Goals as goal

pub returns : goal.returns
returns c = needs_is

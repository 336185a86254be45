use Rattle.machine_laws.proofs.DeskLaw.{reset_after}
use Rattle.machine_laws.proofs.desks.reset_agrees.Goals as goal

pub returns : goal.returns
returns c = reset_after

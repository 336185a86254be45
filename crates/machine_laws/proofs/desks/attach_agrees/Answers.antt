use Rattle.machine_laws.proofs.DeskLaw.{attach_after}
use Rattle.machine_laws.proofs.desks.attach_agrees.Goals as goal

pub returns : goal.returns
returns c = attach_after

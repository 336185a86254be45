use Rattle.machine_laws.proofs.DeskLaw.{detach_after}
use Rattle.machine_laws.proofs.desks.detach_agrees.Goals as goal

pub returns : goal.returns
returns c = detach_after

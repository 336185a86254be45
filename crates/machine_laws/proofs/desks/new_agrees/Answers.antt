use Rattle.machine_laws.proofs.DeskLaw.{new_is}
use Rattle.machine_laws.proofs.desks.new_agrees.Goals as goal

pub returns : goal.returns
returns c = new_is

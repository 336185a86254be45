use Rattle.machine_laws.proofs.DeskLaw.{join_done}
use Rattle.machine_laws.proofs.desks.join_law.Goals as goal

pub returns : goal.returns
returns c = join_done

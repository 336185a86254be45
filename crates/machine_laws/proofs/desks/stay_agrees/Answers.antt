use Rattle.machine_laws.proofs.DeskLaw.{stays}
use Rattle.machine_laws.proofs.desks.stay_agrees.Goals as goal

pub returns : goal.returns
returns c = stays

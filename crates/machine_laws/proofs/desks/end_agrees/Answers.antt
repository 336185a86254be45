use Rattle.machine_laws.proofs.DeskLaw.{end_after}
use Rattle.machine_laws.proofs.desks.end_agrees.Goals as goal

pub returns : goal.returns
returns c = end_after

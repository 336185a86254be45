use Rattle.place_clocks.proofs.Attaching.{attaching}
use Rattle.place_clocks.proofs.attach_law.Goals as goal

pub returns : goal.returns
returns c = attaching

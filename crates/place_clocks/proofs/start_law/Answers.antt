use Rattle.place_clocks.proofs.Fresh.{first_holds}
use Rattle.place_clocks.proofs.start_law.Goals as goal

pub returns : goal.returns
returns c = first_holds

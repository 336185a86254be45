use Rattle.place_clocks.proofs.Along.{turns_hold}
use Rattle.place_clocks.proofs.turns_law.Goals as goal

pub returns : goal.returns
returns c = turns_hold

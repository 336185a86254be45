use Rattle.place_clocks.proofs.Along.{era_follows}
use Rattle.place_clocks.proofs.era_law.Goals as goal

pub returns : goal.returns
returns c = era_follows

use Rattle.place_turns.proofs.First.{first_is}
use Rattle.place_turns.proofs.start_law.Goals as goal

pub returns : goal.returns
returns c = first_is

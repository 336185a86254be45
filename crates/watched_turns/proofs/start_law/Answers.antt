use Rattle.watched_turns.proofs.Run.{first_watched}
use Rattle.watched_turns.proofs.start_law.Goals as goal

pub returns : goal.returns
returns c = first_watched

use Rattle.watched_turns.proofs.Run.{era_watched}
use Rattle.watched_turns.proofs.era_law.Goals as goal

pub returns : goal.returns
returns c = era_watched

use Rattle.watched_turns.proofs.Converse.{step_stands}
use Rattle.watched_turns.proofs.told_law.Goals as goal

pub returns : goal.returns
returns c = step_stands

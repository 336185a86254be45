use Rattle.watched_turns.proofs.Rounds.{rounds_watched}
use Rattle.watched_turns.proofs.rounds_law.Goals as goal

pub returns-clause-state : goal.returns-clause-state
returns-clause-state c file harts g slots w h n base m rs ok j rounds placed stand = (rounds_watched file harts g slots ok h w n base m rs j rounds placed stand).watched

pub returns-clause-right : goal.returns-clause-right
returns-clause-right c file harts g slots w h n base m rs ok j rounds placed stand = (rounds_watched file harts g slots ok h w n base m rs j rounds placed stand).right

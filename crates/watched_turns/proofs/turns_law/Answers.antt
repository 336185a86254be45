use Rattle.watched_turns.proofs.Run.{runs, runs_tell}
use Rattle.watched_turns.proofs.turns_law.Goals as goal

pub returns-clause-state : goal.returns-clause-state
returns-clause-state c file harts g slots w h n m cs ok j placed stand = (runs file harts g slots ok h w n m cs j placed stand).watched

pub returns-clause-told : goal.returns-clause-told
returns-clause-told c file harts g slots w h n m cs ok j placed stand = runs_tell file harts g slots ok h w n m cs j placed stand

pub returns-clause-right : goal.returns-clause-right
returns-clause-right c file harts g slots w h n m cs ok j placed stand = (runs file harts g slots ok h w n m cs j placed stand).right

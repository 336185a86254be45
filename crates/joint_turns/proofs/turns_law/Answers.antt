use Rattle.joint_turns.proofs.Run.{runs}
use Rattle.joint_turns.proofs.turns_law.Goals as goal

pub returns-clause-state : goal.returns-clause-state
returns-clause-state c file harts g slots w h n m cs ok j placed stand = (runs file harts g slots ok h w n m cs j placed stand).joint

pub returns-clause-told : goal.returns-clause-told
returns-clause-told c file harts g slots w h n m cs ok j placed stand = (runs file harts g slots ok h w n m cs j placed stand).told

use Rattle.joint_turns.proofs.Rounds.{rounds_joint}
use Rattle.joint_turns.proofs.rounds_law.Goals as goal

pub returns : goal.returns
returns c file harts g slots w h n base m rs ok j rounds placed stand = rounds_joint file harts g slots ok h w n base m rs j rounds placed stand

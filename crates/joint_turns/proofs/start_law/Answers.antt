use Rattle.joint_turns.proofs.Run.{first_joint}
use Rattle.joint_turns.proofs.start_law.Goals as goal

pub returns : goal.returns
returns c = first_joint

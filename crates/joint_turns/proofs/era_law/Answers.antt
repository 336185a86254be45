use Rattle.joint_turns.proofs.Run.{era_joint}
use Rattle.joint_turns.proofs.era_law.Goals as goal

pub returns : goal.returns
returns c = era_joint

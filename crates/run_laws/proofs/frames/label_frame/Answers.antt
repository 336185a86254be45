use Rattle.run_laws.proofs.FrameLaw.{label_frame}
use Rattle.run_laws.proofs.frames.label_frame.Goals as goal

pub returns : goal.returns
returns c = label_frame

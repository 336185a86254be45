use Rattle.run_laws.proofs.FrameLaw.{spot_frame}
use Rattle.run_laws.proofs.frames.left_clock_frame.Goals as goal

pub returns : goal.returns
returns c = spot_frame

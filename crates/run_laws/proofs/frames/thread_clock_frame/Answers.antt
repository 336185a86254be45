use Rattle.run_laws.proofs.FrameLaw.{thread_frame}
use Rattle.run_laws.proofs.frames.thread_clock_frame.Goals as goal

pub returns : goal.returns
returns c = thread_frame

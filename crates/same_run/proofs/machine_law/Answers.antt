use Rattle.same_run.proofs.Machine.{leave_labels}
use Rattle.same_run.proofs.machine_law.Goals as goal

pub returns : goal.returns
returns c = leave_labels

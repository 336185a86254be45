use Rattle.turn_laws.proofs.StillLaw.{labels-still, clocks-still, queue-still, trace-still, frames-still, locks-still, cell-still}
use Rattle.turn_laws.proofs.still.still_law.Goals as goal

pub returns-clause-labels : goal.returns-clause-labels
returns-clause-labels c = labels-still

pub returns-clause-clocks : goal.returns-clause-clocks
returns-clause-clocks c = clocks-still

pub returns-clause-queue : goal.returns-clause-queue
returns-clause-queue c = queue-still

pub returns-clause-trace : goal.returns-clause-trace
returns-clause-trace c = trace-still

pub returns-clause-frames : goal.returns-clause-frames
returns-clause-frames c = frames-still

pub returns-clause-locks : goal.returns-clause-locks
returns-clause-locks c = locks-still

pub returns-clause-cell : goal.returns-clause-cell
returns-clause-cell c = cell-still

use Rattle.turn_laws.proofs.AlikeLaw.{labels-alike, clocks-alike, queue-alike, trace-alike, frames-alike, locks-alike, cell-alike}
use Rattle.turn_laws.proofs.going.same_items_law.Goals as goal

pub returns-clause-labels : goal.returns-clause-labels
returns-clause-labels c = labels-alike

pub returns-clause-clocks : goal.returns-clause-clocks
returns-clause-clocks c = clocks-alike

pub returns-clause-queue : goal.returns-clause-queue
returns-clause-queue c = queue-alike

pub returns-clause-trace : goal.returns-clause-trace
returns-clause-trace c = trace-alike

pub returns-clause-frames : goal.returns-clause-frames
returns-clause-frames c = frames-alike

pub returns-clause-locks : goal.returns-clause-locks
returns-clause-locks c = locks-alike

pub returns-clause-cell : goal.returns-clause-cell
returns-clause-cell c = cell-alike

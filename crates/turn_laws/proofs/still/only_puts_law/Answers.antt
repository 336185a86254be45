use Rattle.std.proofs.Common.{List}
use Rattle.run_laws.specs.Moments.{Moment}
use Rattle.run_laws.specs.Present.{labels_now, queue_now, clocks_now, trace_now, frames_now, locks_now, cell_now}
use Rattle.turn_laws.proofs.StillLaw.{labels-still, clocks-still, queue-still, trace-still, frames-still, locks-still, cell-still, turn_still, puts-right, puts-spent, puts-grouped, puts-of_events}
use Rattle.turn_laws.proofs.still.only_puts_law.Goals as goal

pub returns-clause-right : goal.returns-clause-right
returns-clause-right c = puts-right

pub returns-clause-spent : goal.returns-clause-spent
returns-clause-spent c = puts-spent

pub returns-clause-grouped : goal.returns-clause-grouped
returns-clause-grouped c = puts-grouped

pub returns-clause-of_events : goal.returns-clause-of_events
returns-clause-of_events c = puts-of_events

pub returns-clause-labels : goal.returns-clause-labels
returns-clause-labels c = λ g entries turn only. turn_still (labels_now g) (labels-still g) entries turn only

pub returns-clause-clocks : goal.returns-clause-clocks
returns-clause-clocks c = λ g entries turn only. turn_still (clocks_now g) (clocks-still g) entries turn only

pub returns-clause-queue : goal.returns-clause-queue
returns-clause-queue c = λ g slots entries turn only. turn_still (queue_now g slots) (queue-still g slots) entries turn only

pub returns-clause-trace : goal.returns-clause-trace
returns-clause-trace c = λ g entries turn t only. turn_still (λ (h : List Moment). trace_now g h t) (λ h m s. trace-still g h m t s) entries turn only

pub returns-clause-frames : goal.returns-clause-frames
returns-clause-frames c = λ entries turn t only. turn_still (λ (h : List Moment). frames_now h t) (λ h m s. frames-still h m t s) entries turn only

pub returns-clause-locks : goal.returns-clause-locks
returns-clause-locks c = λ entries turn t only. turn_still (λ (h : List Moment). locks_now h t) (λ h m s. locks-still h m t s) entries turn only

pub returns-clause-cell : goal.returns-clause-cell
returns-clause-cell c = λ entries turn granule cell only. turn_still (λ (h : List Moment). cell_now h granule cell) (λ h m s. cell-still h m granule cell s) entries turn only

use Rattle.std.proofs.Common.{sym}
use Rattle.woven_turns.proofs.Sorting.{sorted_line, same_thread, same_place, turn_drew}
use Rattle.woven_turns.proofs.sorted_law.Goals as goal

pub returns-clause-order : goal.returns-clause-order
returns-clause-order g c local_stamp value_stamp m xs ys w h s same = (
  sorted_line local_stamp value_stamp m xs ys w h s same,
  (λ t. sym (same_thread local_stamp value_stamp m xs ys w h s same t)),
  (λ k. sym (same_place local_stamp value_stamp m xs ys w h s same k)),
)

pub returns-clause-drew : goal.returns-clause-drew
returns-clause-drew g c turn local_stamp value_stamp d w h = turn_drew local_stamp value_stamp turn d w h

use Rattle.std.proofs.Common.{◌≡◌, ◌++◌}
use Rattle.std.specs.Vec.Iter.{into_iter_items}
use Rattle.run_record.specs.Order.{entries_in}
use Rattle.run_record.proofs.logs.merge.Given as goal

-- what is joined so far, before what is left, is what was handed in
abbrev pub invariant-loop-log : goal.invariant-loop-log
invariant-loop-log l = l.entries.items ++ entries_in (into_iter_items l.log-iterator) ≡ entries_in l.fn.logs.items

use Rattle.std.proofs.Common.{◌≡◌, ◌++◌}
use Rattle.std.specs.Vec.Iter.{into_iter_items}
use Rattle.shared_table.specs.Opening.{spread}
use Rattle.shared_table.proofs.opening.spread_out.Given as goal

-- what is spread so far, before what is left, is what was handed in
abbrev pub invariant-loop-value : goal.invariant-loop-value
invariant-loop-value l = l.slots.items ++ spread (into_iter_items l.value-iterator) ≡ spread l.fn.objects.items

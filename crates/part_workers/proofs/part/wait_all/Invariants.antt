use Rattle.std.proofs.Common.{◌≡◌, ◌++◌}
use Rattle.std.specs.Vec.Iter.{into_iter_items}
use Rattle.part_workers.specs.Parts.{waits_at}
use Rattle.part_workers.proofs.part.wait_all.Given as goal

-- what waits so far, before what is left, is what is to wait
abbrev pub invariant-loop-candidate : goal.invariant-loop-candidate
invariant-loop-candidate l =
    l.waiting.items ++ waits_at l.stamp (into_iter_items l.candidate-iterator) ≡ l.initial.waiting.items ++ waits_at l.stamp l.fn.candidates.items

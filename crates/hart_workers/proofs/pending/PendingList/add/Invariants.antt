use Rattle.std.proofs.Common.{◌≡◌, ◌++◌, map, length}
use Rattle.std.specs.Vec.Iter.{into_iter_items, into_iter_len}
use Rattle.part_workers.specs.Parts.{keyed_in}
use Rattle.hart_workers.specs.Tells.{keyed_of_pending}
use Rattle.hart_workers.proofs.pending.PendingList.add.Given as goal

-- what is there so far, before what is left, is what was there and what is added
abbrev pub invariant-loop-one : goal.invariant-loop-one
invariant-loop-one l =
    (map keyed_of_pending l.self-inside.items.items ++ map (keyed_in l.fn.tid) (into_iter_items l.one-iterator) ≡ l.fn.self ++ map (keyed_in l.fn.tid) l.fn.waiting.items)
    × (into_iter_len l.one-iterator ≡ length (into_iter_items l.one-iterator))

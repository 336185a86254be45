use Rattle.std.proofs.Common.{rules}
use Rattle.std.proofs.lemmas.List.Sorted.{answers_always}
use Rattle.hart_workers.proofs.Sorts.{key_of, AreSorted-from_sort}
use Rattle.hart_workers.proofs.pending.PendingList.sort.Goals as goal

pub returns : goal.returns
returns c =
    let keys = answers_always _ _ _ (λ f a r next called. search rules) in
    let sorted = AreSorted-from_sort c.self.inside.items.items c.sort_by_key.new.self.items (c.in_ok-sort_by_key.ensures.sorted key_of keys)
    (c.in_ok-sort_by_key.ensures.stable key_of keys) in
    rw (← c.self.view_is) sorted

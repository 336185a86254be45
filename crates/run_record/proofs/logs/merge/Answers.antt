use Rattle.std.proofs.Common.{◌≡◌, ◌∙◌, sym, rules, append_assoc}
use Rattle.std.proofs.lemmas.List.Sorted.{answers_always}
use Rattle.run_record.specs.Order.{entries_in}
use Rattle.run_record.proofs.EntryOrder.{AreOrdered-from_sort, all_joined}
use Rattle.run_record.proofs.logs.merge.Goals as goal

pub loop-log-init : goal.loop-log-init
loop-log-init c = rw (c.new-entries.ensures.items, c.into_iter-log-iterator.ensures.into_iter_gives.0)

pub loop-log-preserved : goal.loop-log-preserved
loop-log-preserved c = rw (c.in_ok-copy_to.ensures, append_assoc) (rw c.in-Some.ensures.steps.0 at c.loop-log.invariant)

pub returns-clause-same : goal.returns-clause-same
returns-clause-same c =
    let all : c.loop-log.entries.items ≡ entries_in c.args.logs.items = all_joined _ _ _ c.loop-log.invariant
    (sym c.loop-log.log-iterator.rest.ok.0 ∙ c.in-None.ensures.steps.0) in
    rw (c.in_ok-joined.ensures ∙ c.deref.ensures.value, ← all) c.in_ok-sort_by_key.ensures.permutation

pub returns-clause-ordered : goal.returns-clause-ordered
returns-clause-ordered c =
    let all : c.loop-log.entries.items ≡ entries_in c.args.logs.items = all_joined _ _ _ c.loop-log.invariant
    (sym c.loop-log.log-iterator.rest.ok.0 ∙ c.in-None.ensures.steps.0) in
    let ascends = c.in_ok-sort_by_key.ensures.sorted (λ e. (e.stamp, e.tid)) (answers_always _ _ _ (λ f a r g h. search rules)) in
    rw (c.in_ok-joined.ensures ∙ c.deref.ensures.value)
    (AreOrdered-from_sort c.loop-log.entries.items _ (rw all c.requires) c.in_ok-sort_by_key.ensures.permutation ascends)

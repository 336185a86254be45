use Rattle.std.proofs.Common.{sym, ◌∙◌, append_assoc}
use Rattle.shared_table.proofs.Dealing.{all_spread}
use Rattle.shared_table.proofs.opening.spread_out.Goals as goal

pub loop-value-init : goal.loop-value-init
loop-value-init c = rw (c.in_ok-slots.ensures.items, c.into_iter-value-iterator.ensures.into_iter_gives.0)

pub loop-value-preserved : goal.loop-value-preserved
loop-value-preserved c = rw (c.in_ok-push-4.ensures.items, c.in_ok-push-3.ensures.items, c.in_ok-push-2.ensures.items, c.in_ok-push.ensures.items, append_assoc, append_assoc, append_assoc, append_assoc) (rw c.in-Some.ensures.steps.0 at c.loop-value.invariant)

pub returns : goal.returns
returns c = all_spread _ _ _ c.loop-value.invariant (sym c.loop-value.value-iterator.rest.ok.0 ∙ c.in-None.ensures.steps.0)

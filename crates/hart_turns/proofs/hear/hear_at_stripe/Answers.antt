use Rattle.std.proofs.Common.{ap, ◌∙◌}
use Rattle.sync_slab.specs.Objects.{SyncObjects}
use Rattle.hart_turns.proofs.Resting.{heard_roomed, objects_roomed, lost_roomed, slots_after}
use Rattle.hart_turns.proofs.hear.hear_at_stripe.Goals as goal

pub returns-clause-heard : goal.returns-clause-heard
returns-clause-heard c =
    let kept = c.in_ok-reserve_one.ensures.rest_kept in
    record {
      keeper = let z = c.if-not-is_at.false in c.is_at.ensures (cc);
      watcher = λ given desk. heard_roomed given desk c.args.event.now c.args.watcher.now _ _ c.args.set.now _ c.in_ok-room.ensures.ok kept (c.hear_at_object-spent.ensures.watcher given desk);
      objects = objects_roomed c.args.event.now c.args.watcher.now _ c.args.set.now _ _ c.in_ok-room.ensures.ok kept c.hear_at_object-spent.ensures.objects;
      spent_is = c.hear_at_object-spent.ensures.spent ∙ lost_roomed c.args.event.now c.args.watcher.now _ c.in_ok-room.ensures.ok;
      slots = slots_after _ _ _ _ _ c.hear_at_object-spent.ensures.objects ∙ ap (λ (s : SyncObjects). s.slots) kept;
    }

use Rattle.std.proofs.Common.{Some, ap, subst, ◌∙◌}
use Rattle.shared_table.specs.declared.object.Stripe.{Stripe}
use Rattle.hart_turns.specs.Hearing.{HearsAtStripe}
use Rattle.hart_turns.proofs.OneEvent.{heard_map, stripe_one}
use Rattle.hart_turns.proofs.events.hear_channel.Goals as goal

pub returns-in-Some-Stripe-clause-heard : goal.returns-in-Some-Stripe-clause-heard
returns-in-Some-Stripe-clause-heard c =
    let v = c.deref_mut.ensures.value in
    heard_map _ _ c.hear_at_stripe.result
    (λ spent h file t at clock checks waiting me.
    stripe_one file c.args.limits.now c.args.number t clock c.args.event.now at c.args.watcher.now c.hear_at_stripe.new.watcher c.args.place.now c.in-Some-Stripe.stripe _ checks waiting me
    spent (c.in-Some-Stripe.is ∙ ap Some c.in-Some-Stripe.field-0-is) c.requires.channel c.requires.ready
    (subst (λ (s : Stripe). HearsAtStripe c.args.number c.args.event.now c.args.watcher.now c.hear_at_stripe.new.watcher s.sync c.hear_at_stripe.new.set spent) v h)
    (ap (λ (s : Stripe). s.words) v) (ap (λ (s : Stripe). s.reserved) v) (ap (λ (s : Stripe). s.last) v))
    c.hear_at_stripe.ensures.heard

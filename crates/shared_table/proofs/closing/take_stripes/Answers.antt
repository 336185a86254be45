use Rattle.std.proofs.Common.{rules, arith, ◌≡◌, ℕ, List, length, get_or, sym, ap, ◌∙◌, subst, Option, None}
use mathlib.Core.Option.{some}
use lib.ListN.{get_elem?}
use Rattle.shared_table.specs.declared.object.Stripe.{Stripe}
use Rattle.shared_table.specs.Past.{Slot}
use Rattle.shared_table.specs.Rule.{word_place, slot_place}
use Rattle.shared_table.specs.Ends.{ends_as, stripe_in}
use Rattle.shared_table.proofs.Rows.{each_more}
use Rattle.shared_table.proofs.closing.take_stripes.Goals as goal

pub loop-stripe-preserved : goal.loop-stripe-preserved
loop-stripe-preserved c =
    let inv = c.loop-stripe.invariant in
    let i : ℕ = c.loop-stripe.stripe in
    let pushed = c.push_reserved.ensures in
    let took = c.take_value-value.ensures in
    let items : List Slot = c.args.table.now.slots.items in
    let ws : List ℕ = c.args.table.now.words.items in
    let P : ℕ → Option Stripe → Type 0 = λ k x. (y : Slot) → get_elem? items (slot_place k) ≡ some y → x ≡ stripe_in (ends_as (get_or ws (word_place k) 0) y) in
    let len : length c.loop-stripe.room.items ≡ i = search rules in
    let here : P i c.stripe_of.result = λ y at. c.stripe_of.ensures
    ∙ ap stripe_in (took.value y (subst (λ (l : List Slot). get_elem? l (slot_place i) ≡ some y) (sym inv.items) at) ∙ ap (λ w. ends_as (get_or w.items (word_place i) 0) y) inv.words) in
    let all = each_more P c.loop-stripe.room.items c.stripe_of.result None i len (λ k l y at. inv.values k y l at) here in record {
      words = took.same.0 ∙ inv.words;
      items = took.same.1 ∙ inv.items;
      count = took.same.2 ∙ inv.count;
      left = λ k low high. took.rest k (omega arith) high;
      gone = λ k l. took.gone inv.gone k (omega arith);
      len = search rules;
      room = search rules;
      values = λ k y l at. ap (λ (z : List (Option Stripe)). get_or z k None) pushed.items ∙ all k l y at;
    }

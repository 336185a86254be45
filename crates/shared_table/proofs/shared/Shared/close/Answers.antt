use Rattle.std.proofs.Common.{rules, arith, ◌≡◌, ℕ, List, length, get_or, Option, sym, ap, ◌∙◌, subst}
use lib.ListN.{get_elem?}
use mathlib.Core.Option.{some}
use Rattle.shared_table.specs.declared.object.Stripe.{Stripe}
use Rattle.shared_table.specs.declared.view.Layout.{Layout}
use Rattle.shared_table.specs.Past.{Slot}
use Rattle.shared_table.specs.Ends.{EndsAs, desk_in, ends_as}
use Rattle.shared_table.specs.Rule.{slot_place, word_place}
use Rattle.shared_table.specs.Plans.{layout_of}
use Rattle.shared_table.proofs.Ending.{closes}
use Rattle.shared_table.proofs.shared.Shared.close.Goals as goal

pub returns-clause-ends : goal.returns-clause-ends
returns-clause-ends c =
    let lay : Layout = layout_of c.self.inside.table.shared.key in
    let v = c.args.seat.me.0 in
    let inv = c.self.invariant.0 in
    let closed = c.close_with-closed in
    let xs : List Slot = closed.result.slots.items in
    let ws : List ℕ = closed.result.words.items in
    let taken = c.take_stripes-stripes.ensures in
    let desk = c.take_desk-desk in
    let long : length xs ≡ 260 = search rules in
    let granules = inv.same_granules in
    let got = closes c.args.seat.id v ws xs c.take_stripes-stripes.result.items desk.result c.copy_words-cells.result.items lay c.requires.own.live c.requires.opening inv.objects long closed.ensures.values.2
    (λ k y l e. taken.values k y l e)
    (λ y e. desk.ensures.value y (subst (λ (l : List Slot). get_elem? l (slot_place 64) ≡ some y) (sym taken.same.1) e) ∙ ap (λ w. desk_in (ends_as (get_or w.items (word_place 64) 0) y)) taken.same.0)
    (λ k l. c.copy_words-cells.ensures.values k (omega arith)) in
    subst (λ (z : List (Option Stripe) × List ℕ). EndsAs v z.0 desk.result z.1) (λ i. (sym c.from_vec.ensures i, sym c.from_vec-2.ensures i)) got

use Rattle.std.proofs.Common.{rules, ◌≡◌, ℕ, List, [], length, get_or, None, sym, subst}
use Rattle.shared_table.specs.Past.{Slot}
use Rattle.shared_table.specs.Opening.{IsBlank, words_in}
use Rattle.shared_table.proofs.Rows.{each_more}
use Rattle.shared_table.proofs.opening.blank_stripes.Goals as goal

pub loop-preserved : goal.loop-preserved
loop-preserved c =
    let inv = c.loop.invariant in
    let old : List Slot = c.loop.stripes.items in
    let new : Slot = c.in_ok-blank_stripe.field-0 in
    let P : ℕ → Slot → Type 0 = λ k x. IsBlank c.args.limits.now x × (words_in x ≡ []) in
    let len : length old ≡ c.loop.counter = search rules in
    (search rules, λ k l. subst (λ (z : List Slot). P k (get_or z k None)) (sym c.in_ok-push.ensures.items) (each_more P old new None c.loop.counter len inv.1 (c.in_ok-blank_stripe.ensures.blank, c.in_ok-blank_stripe.ensures.words) k l))

use Rattle.std.proofs.Common.{◌≡◌, ℕ, ◌+◌, ◌*◌, Bool, false, List, set, sym, ap, ◌∙◌, subst}
use mathlib.Core.Option.{some-injective}
use Rattle.shared_table.specs.Past.{Slot}
use Rattle.shared_table.specs.Ends.{ends_as, Filled, AreEmpty}
use Rattle.shared_table.proofs.Rows.{at_get}
use Rattle.shared_table.proofs.Slots.{emptied_four, filled_after_four}
use Rattle.shared_table.proofs.closing.take_value.Goals as goal

pub returns-clause-value : goal.returns-clause-value
returns-clause-value c y at =
    let word = at_get c.args.table.now.words.items (8 * c.args.object) c.word-word.result 0 c.word-word.ensures in
    let same : c.take-value.result ≡ y = some-injective c.take-value.result y (sym c.take-value.ensures.value ∙ at) in
    c.value_if_even.ensures ∙ ap (λ (z : ℕ × Slot). ends_as z.0 z.1) (λ j. (sym word j, same j))

pub returns-clause-rest : goal.returns-clause-rest
returns-clause-rest c =
    let n : ℕ = 4 * c.args.object in
    let f1 = c.take-value.ensures.others.1 in
    let f2 = c.take.ensures.others.1 ∙ ap (λ (fs : List Bool). set fs (n + 1) false) f1 in
    let f3 = c.take-2.ensures.others.1 ∙ ap (λ (fs : List Bool). set fs (n + 2) false) f2 in
    let f4 = c.take-3.ensures.others.1 ∙ ap (λ (fs : List Bool). set fs (n + 3) false) f3 in
    subst (λ (fs : List Bool). Filled fs (n + 4) 260) (sym f4) (filled_after_four _ n 260 c.requires.slots)

pub returns-clause-gone : goal.returns-clause-gone
returns-clause-gone c old =
    let n : ℕ = 4 * c.args.object in
    let f1 = c.take-value.ensures.others.1 in
    let f2 = c.take.ensures.others.1 ∙ ap (λ (fs : List Bool). set fs (n + 1) false) f1 in
    let f3 = c.take-2.ensures.others.1 ∙ ap (λ (fs : List Bool). set fs (n + 2) false) f2 in
    let f4 = c.take-3.ensures.others.1 ∙ ap (λ (fs : List Bool). set fs (n + 3) false) f3 in
    subst (λ (fs : List Bool). AreEmpty fs (n + 4)) (sym f4) (emptied_four _ n old)

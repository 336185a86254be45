-- What is owed after a whole instruction.
use Rattle.std.proofs.Common.{◌≡◌, ◌≤◌, ◌⊎◌, inl, inr, ℕ, false, Option, Some, None, List, [], ◌∷◌, ◌++◌, refl, ap, sym, subst}
use Rattle.run_record.specs.declared.limits.Limits.{Limits}
use Rattle.run_record.specs.declared.event.Event.{Event}
use Rattle.run_record.specs.declared.entry.Label.{Label}
use Rattle.run_laws.specs.Labels.{raises, is_end}
use Rattle.turn_orders.specs.Lists.{Each}
use Rattle.race_core.specs.Watched.{Watched}
use Rattle.place_turns.specs.Places.{Local, Value}
use Rattle.place_turns.specs.Turns.{Turned, steps, bare_turn}
use Rattle.part_growth.specs.Growth.{IsOwedBy, spent_by, owing_of}
use Rattle.part_growth.proofs.Lists.{EndsWith}
use Rattle.part_growth.proofs.Order.{quiet_until}
use Rattle.part_growth.proofs.Spending.{none_owed, spent_owed}

-- a list with an element has a last one
record HasLast {X : Type 0} (xs : List X) : Type 0 where
  last : X
  ends : EndsWith xs last

some_last : {X : Type 0} (x : X) (xs : List X) → HasLast (x ∷ xs)
some_last x [] = record { last = x; ends = record { before = []; is = refl } }
some_last x (y ∷ ys) =
    let r = some_last y ys in
    record { last = r.last; ends = record { before = x ∷ r.ends.before; is = ap (λ (zs : List _). x ∷ zs) r.ends.is } }

none_or_last : {X : Type 0} (xs : List X) → (xs ≡ []) ⊎ HasLast xs
none_or_last [] = inl refl
none_or_last (x ∷ xs) = inr (some_last x xs)

module _ (file : List ℕ) (limits : Limits) (harts t : ℕ) (found : Local) (v : Value) (left : Turned) (w : Watched) (spent : Option Label)
    (turned : bare_turn file harts t steps found v ≡ left) (none : left.told ≡ [] → spent ≡ None)
    (last : (before : List Event) (event : Event) → left.told ≡ before ++ event ∷ [] →
    Each (λ (e : Event). (raises e ≡ 0) × (is_end e ≡ false)) before → spent ≡ spent_by event w)
    (top : w.greatest ≡ limits.epochs) (most : (l : Label) → w.label ≡ Some l → l.epoch ≤ limits.epochs) where
  without : left.told ≡ [] → IsOwedBy limits w left.told (owing_of spent)
  without q = subst (λ (es : List Event). IsOwedBy limits w es (owing_of spent)) (sym q)
      (subst (λ (o : Option Label). IsOwedBy limits w [] (owing_of o)) (sym (none q)) (none_owed limits w))

  with_last_event : (before : List Event) (event : Event) → left.told ≡ before ++ event ∷ [] → IsOwedBy limits w left.told (owing_of spent)
  with_last_event before event q = subst (λ (es : List Event). IsOwedBy limits w es (owing_of spent)) (sym q)
      (subst (λ (o : Option Label). IsOwedBy limits w (before ++ event ∷ []) (owing_of o))
      (sym (last before event q (quiet_until file harts t found v left before event turned q))) (spent_owed limits w w before event refl top most))

  owed_by_all : IsOwedBy limits w left.told (owing_of spent)
  owed_by_all = elim (none_or_last left.told) [
    | inl q ↦ without q
    | inr r ↦ with_last_event r.ends.before r.last r.ends.is
  ]

-- What is owed after an instruction is the leave of the label that its events spent, if they spent one.
pub whole_owed : (file : List ℕ) (limits : Limits) (harts t : ℕ) (found : Local) (v : Value) (left : Turned) (w : Watched) (spent : Option Label) →
    bare_turn file harts t steps found v ≡ left → (left.told ≡ [] → spent ≡ None) →
    ((before : List Event) (event : Event) → left.told ≡ before ++ event ∷ [] → Each (λ (e : Event). (raises e ≡ 0) × (is_end e ≡ false)) before →
    spent ≡ spent_by event w) → w.greatest ≡ limits.epochs → ((l : Label) → w.label ≡ Some l → l.epoch ≤ limits.epochs) →
    IsOwedBy limits w left.told (owing_of spent)
whole_owed file limits harts t found v left w spent turned none last top most =
    owed_by_all file limits harts t found v left w spent turned none last top most

-- Histories that have the same moments before a position have the same candidates there.
use Rattle.std.proofs.Common.{◌≡◌, ℕ, ◌<◌, ◌≤◌, ◌↔◌, true, Some, List, [], ◌++◌, length, slice_get, sym, ap, ap₂, subst, ◌∙◌, arith}
use Rattle.std.proofs.Math.ListN.{get_or-append}
use Rattle.run_record.specs.declared.entry.Check.{Check}
use Rattle.run_laws.specs.Moments.{Item, Past, Moment, moment_at, items}
use Rattle.run_laws.specs.HappensBefore.{item_ends_channel, Pair, Program, Released, Created, Joined}
use Rattle.run_laws.specs.Labels.{Labels, labels}
use Rattle.run_laws.specs.SlotOrder.{gives_back, slot_under, SlotPair, Plain, NextOwner, SlotBefore, One, Then}
use Rattle.run_laws.specs.Candidates.{has_word, loaded_by, Races, IsCandidate}
use Rattle.run_laws.proofs.PresentLaw.{labels_agree}
use Rattle.run_laws.proofs.SlotInvariant.{before-lt}

-- moments of a history that goes on
pub moments-append : (h later : List Moment) (i : ℕ) → i < length h → moment_at (h ++ later) i ≡ moment_at h i
moments-append h later i l = get_or-append h later (record { entry = 0; round = 0; item = Past; checks = [] }) i l

module _ (g : ℕ) (h k : List Moment) (m : ℕ) (agree : (i : ℕ) → i < m → moment_at h i ≡ moment_at k i) where
  item : (i : ℕ) → i < m → items h i ≡ items k i
  item i l = ap (λ (x : Moment). x.item) (agree i l)

  labels_same : (n : ℕ) → n ≤ m → labels g (items h) n ≡ labels g (items k) n
  labels_same n l = labels_agree g (items h) (items k) n (λ i y. item i (omega arith))

  pair : {i j : ℕ} → j < m → Pair (items h) i j → Pair (items k) i j
  pair {i} {j} l (Program t e f o p q) = Program t e f o (sym (item i (omega arith)) ∙ p) (sym (item j l) ∙ q)
  pair {i} {j} l (Released t u a p r o x y clear) = Released t u a p r o (sym (item i (omega arith)) ∙ x) (sym (item j l) ∙ y) (λ z b c. ap (item_ends_channel a p) (sym (item z (omega arith))) ∙ clear z b c)
  pair {i} {j} l (Created t c o p q) = Created t c o (sym (item i (omega arith)) ∙ p) (sym (item j l) ∙ q)
  pair {i} {j} l (Joined c t o p q) = Joined c t o (sym (item i (omega arith)) ∙ p) (sym (item j l) ∙ q)

  slot_pair : {i j : ℕ} → j < m → SlotPair g (items h) i j → SlotPair g (items k) i j
  slot_pair l (Plain p) = Plain (pair l p)
  slot_pair {i} {j} l (NextOwner s o gives under era none) =
      NextOwner s o
      (sym (ap₂ (λ (x : Labels) (y : Item). gives_back x y s) (labels_same i (omega arith)) (item i (omega arith))) ∙ gives)
      (sym (ap₂ slot_under (labels_same j (omega arith)) (item j l)) ∙ under)
      (sym (ap (λ (x : Labels). x.era) (labels_same i (omega arith))) ∙ era ∙ ap (λ (x : Labels). x.era) (labels_same j (omega arith)))
      (λ z b c. sym (ap₂ (λ (x : Labels) (y : Item). gives_back x y s) (labels_same z (omega arith)) (item z (omega arith))) ∙ none z b c)

  before : {i j : ℕ} → j < m → SlotBefore g (items h) i j → SlotBefore g (items k) i j
  before l (One p) = One (slot_pair l p)
  before l (Then b c) = let y = before-lt g (items h) c in Then (before (omega arith) b) (before l c)

  races : (n : ℕ) (c : Check) (w : ℕ) → n < m → Races g k n c w → Races g h n c w
  races n c w l r =
      record {
        opposed = r.opposed;
        unordered = λ x has b. let y = before-lt g (items h) b in r.unordered x (subst (λ (p : Moment). has_word c.granule w p ≡ true) (agree x (omega arith)) has) (before l b);
      }

pub candidate_agree : (g : ℕ) (h k : List Moment) (m : ℕ) → ((i : ℕ) → i < m → moment_at h i ≡ moment_at k i) → (n : ℕ) (c : Check) (w : ℕ) → n < m → IsCandidate g h n c w → IsCandidate g k n c w
candidate_agree g h k m agree n c w l p =
    record {
      index = p.index;
      loaded = subst (λ (x : Moment). slice_get (loaded_by x) p.index ≡ Some (c, w)) (agree n l) p.loaded;
      races = races g k h m (λ i y. sym (agree i y)) n c w l p.races;
      first = λ i d v y s r. p.first i d v y (subst (λ (x : Moment). slice_get (loaded_by x) i ≡ Some (d, v)) (sym (agree n l)) s) (races g h k m agree n d v l r);
    }

-- a history's candidates are those of each longer one
pub candidates_stay : (g : ℕ) (h later : List Moment) (n : ℕ) (c : Check) (w : ℕ) → n < length h → IsCandidate g (h ++ later) n c w ↔ IsCandidate g h n c w
candidates_stay g h later n c w l = (
  candidate_agree g (h ++ later) h (length h) (moments-append h later) n c w l,
  candidate_agree g h (h ++ later) (length h) (λ i y. sym (moments-append h later i y)) n c w l,
)

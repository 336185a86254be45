-- What a history collects, an alike one does, and one that goes on without checks.
use Rattle.std.proofs.Common.{◌≡◌, ◌≤◌, inl, inr, ℕ, zero, suc, Option, Some, None, List, [], ◌∷◌, ◌++◌, length, refl, sym, ap, ap₂, subst, ◌∙◌, arith}
use Rattle.std.specs.Prelude.{filter_map, take}
use Rattle.std.proofs.lemmas.Bool.{cases_lt}
use mathlib.Core.Path.{fun_ext}
use Rattle.run_record.specs.declared.event.Event.{Event}
use Rattle.run_record.specs.declared.entry.Check.{Check}
use Rattle.run_record.specs.declared.report.Side.{Side}
use Rattle.run_laws.specs.Moments.{Item, Moment, moment_at, items}
use Rattle.run_laws.specs.Accesses.{Access}
use Rattle.run_laws.specs.Clocks.{clocks}
use Rattle.run_laws.specs.Stacks.{event_by, events_before}
use Rattle.run_laws.specs.Reports.{told_side}
use Rattle.report_laws.specs.Awaited.{Awaited, Collects, Begin, Unchecked, Ordered, Unordered}
use Rattle.report_laws.specs.Sound.{first_race_in, first_race}
use Rattle.report_laws.proofs.AgreeLaw.{moments-append}
use Rattle.report_laws.proofs.GrownLaw.{told_stays}
use Rattle.turn_laws.specs.Going.{AreAlike}
use Rattle.turn_histories.proofs.Alike.{same_items, same_checks}
use Rattle.part_races.proofs.Spans.{race_stays}

-- ---- alike histories

pub same_length : (h k : List Moment) → AreAlike h k → length h ≡ length k
same_length [] [] a = refl
same_length [] (y ∷ k) a = absurd a
same_length (x ∷ h) [] a = absurd a
same_length (x ∷ h) (y ∷ k) a = ap suc (same_length h k a.1)

abbrev added : Option Event → List Event → List Event
added None es = es
added (Some e) es = e ∷ es

same_events : (t : ℕ) (h k : List Moment) → AreAlike h k →
    filter_map (λ (m : Moment). event_by t m.item) h ≡ filter_map (λ (m : Moment). event_by t m.item) k
same_events t [] [] a = refl
same_events t [] (y ∷ k) a = absurd a
same_events t (x ∷ h) [] a = absurd a
same_events t (x ∷ h) (y ∷ k) a = ap₂ added (ap (event_by t) a.0.0) (same_events t h k a.1)

alike_take : (n : ℕ) (h k : List Moment) → AreAlike h k → AreAlike (take n h) (take n k)
alike_take zero h k a = tt
alike_take (suc n) [] [] a = tt
alike_take (suc n) [] (y ∷ k) a = absurd a
alike_take (suc n) (x ∷ h) [] a = absurd a
alike_take (suc n) (x ∷ h) (y ∷ k) a = (a.0, alike_take n h k a.1)

module _ (g : ℕ) (h k : List Moment) (alike : AreAlike h k) where
  before : (n t : ℕ) → events_before h n t ≡ events_before k n t
  before n t = same_events t (take n h) (take n k) (alike_take n h k alike)

  side : (n t : ℕ) (a : Access) → told_side h n t a ≡ told_side k n t a
  side n t a = rw (before n t) refl

  race : (n t : ℕ) → first_race g h n t ≡ first_race g k n t
  race n t = ap₂ (λ (f : ℕ → Item) (cs : List Check). first_race_in ((clocks g f n).thread t) cs)
      (fun_ext (λ i. same_items h k i alike)) (same_checks h k n alike)

  pub alike_collects : (from n : ℕ) (ws : List Awaited) → Collects g h from n ws → Collects g k from n ws
  alike_collects from _ _ Begin = Begin
  alike_collects from _ _ (Unchecked {n = n} {waiting = ws} c none) = Unchecked (alike_collects from n ws c) (sym (same_checks h k n alike) ∙ none)
  alike_collects from _ _ (Ordered {n = n} {waiting = ws} t a c made none) =
      Ordered t a (alike_collects from n ws c) (sym (same_items h k n alike) ∙ made) (sym (race n t) ∙ none)
  alike_collects from _ _ (Unordered {n = n} {waiting = ws} check word t a c made some) =
      subst (λ (s : Side). Collects g k from (suc n) (ws ++ record { mine = s; granule = check.granule; word = word } ∷ [])) (sym (side n t a))
      (Unordered check word t a (alike_collects from n ws c) (sym (same_items h k n alike) ∙ made) (sym (race n t) ∙ some))

-- ---- shorter histories

module _ (g : ℕ) (h later : List Moment) where
  -- up to the history's end
  pub collects_shorter : (from n : ℕ) (ws : List Awaited) → n ≤ length h → Collects g (h ++ later) from n ws → Collects g h from n ws
  collects_shorter from _ _ l Begin = Begin
  collects_shorter from _ _ l (Unchecked {n = n} {waiting = ws} c none) =
      Unchecked (collects_shorter from n ws (omega (arith, l)) c) (ap (λ (m : Moment). m.checks) (sym (moments-append h later n (omega (arith, l)))) ∙ none)
  collects_shorter from _ _ l (Ordered {n = n} {waiting = ws} t a c made none) =
      Ordered t a (collects_shorter from n ws (omega (arith, l)) c)
      (ap (λ (m : Moment). m.item) (sym (moments-append h later n (omega (arith, l)))) ∙ made) (sym (race_stays g h later n t (omega (arith, l))) ∙ none)
  collects_shorter from _ _ l (Unordered {n = n} {waiting = ws} check word t a c made some) =
      subst (λ (s : Side). Collects g h from (suc n) (ws ++ record { mine = s; granule = check.granule; word = word } ∷ []))
      (sym (told_stays h later n t a (omega (arith, l))))
      (Unordered check word t a (collects_shorter from n ws (omega (arith, l)) c)
      (ap (λ (m : Moment). m.item) (sym (moments-append h later n (omega (arith, l)))) ∙ made) (sym (race_stays g h later n t (omega (arith, l))) ∙ some))

-- without checks there is no race
none_first : (clock : ℕ → ℕ) (cs : List Check) (l : Check × ℕ) → cs ≡ [] → first_race_in clock cs ≡ Some l → ⊥
none_first clock [] l e q = cc
none_first clock (c ∷ cs) l e q = cc

-- what comes after a position and has no checks adds nothing
pub collects_until : (g : ℕ) (h : List Moment) (from stop n : ℕ) (ws : List Awaited) → from ≤ stop → stop ≤ n →
    ((i : ℕ) → stop ≤ i → (moment_at h i).checks ≡ []) → Collects g h from n ws → Collects g h from stop ws
collects_until g h from stop _ _ low high none Begin =
    let same : from ≡ stop = omega (arith, low, high) in subst (λ (i : ℕ). Collects g h from i []) same Begin
collects_until g h from stop _ _ low high none (Unchecked {n = n} {waiting = ws} c q) = elim (cases_lt n stop) [
  | inl l ↦ (let same : suc n ≡ stop = omega (arith, l, high) in subst (λ (i : ℕ). Collects g h from i ws) same (Unchecked c q))
  | inr l ↦ collects_until g h from stop n ws low l none c
]
collects_until g h from stop _ _ low high none (Ordered {n = n} {waiting = ws} t a c made q) = elim (cases_lt n stop) [
  | inl l ↦ (let same : suc n ≡ stop = omega (arith, l, high) in subst (λ (i : ℕ). Collects g h from i ws) same (Ordered t a c made q))
  | inr l ↦ collects_until g h from stop n ws low l none c
]
collects_until g h from stop _ _ low high none (Unordered {n = n} {waiting = ws} check word t a c made q) = elim (cases_lt n stop) [
  | inl l ↦ (let same : suc n ≡ stop = omega (arith, l, high) in
      subst (λ (i : ℕ). Collects g h from i (ws ++ record { mine = told_side h n t a; granule = check.granule; word = word } ∷ [])) same
      (Unordered check word t a c made q))
  | inr l ↦ absurd (none_first ((clocks g (items h) n).thread t) (moment_at h n).checks (check, word) (none n l) q)
]

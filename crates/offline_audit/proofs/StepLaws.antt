-- What steps tell, as they grow.
use Rattle.std.proofs.Common.{◌≡◌, ℕ, ◌<◌, ◌≤◌, ◌⊎◌, ◌↔◌, List, [], ◌∷◌, ◌++◌, length, refl, sym, ap, ◌∙◌, subst, inl, inr, arith}
use Rattle.std.specs.Prelude.{slice_index_or, ◌-◌}
use Rattle.std.specs.List.{All, Contains}
use Rattle.std.proofs.lemmas.Bool.{cases_eq, cases_lt, lt-ltb, le-ltb}
use Rattle.std.proofs.lemmas.List.{get_or_default}
use Rattle.std.proofs.lemmas.List.Elements.{Contains-append_left, Contains-append_right, Contains-append_cases, All-append, All-cons, All-nil}
use Rattle.std.proofs.lemmas.List.Quantifiers.{all_pairs_push}
use Rattle.offline_audit.specs.declared.heard.Step.{Step}
use Rattle.offline_audit.specs.Heard.{latest, steps_after, Tell, TellBy, AreRising}
use Rattle.offline_audit.proofs.Entries.{nothing}

single : (s x : Step) → Contains (s ∷ []) x → s ≡ x
single s x (k, l, e) = let z : k ≡ 0 = omega arith in subst (λ (i : ℕ). slice_index_or (s ∷ []) i x ≡ x) z e

itself : (s : Step) → Contains (s ∷ []) s
itself s = (0, omega arith, refl)

-- what holds of all holds of each
pub each : (P : Step → Type 0) (steps : List Step) (s : Step) → All P steps → Contains steps s → P s
each P steps s a (k, l, e) = subst P e (a k s l)

tell_push : (steps : List Step) (s : Step) (x : ℕ) → Tell (steps ++ s ∷ []) x ↔ (Tell steps x ⊎ (x < s.known))
tell_push steps s x = (
  λ t. elim (Contains-append_cases steps (s ∷ []) t.0 t.1) [
    | inl c ↦ inl (t.0, c, t.2)
    | inr c ↦ inr (subst (λ (y : Step). x < y.known) (sym (single s t.0 c)) t.2)
  ],
  λ t. elim t [
    | inl c ↦ (c.0, Contains-append_left steps (s ∷ []) c.0 c.1, c.2)
    | inr l ↦ (s, Contains-append_right steps (s ∷ []) s (itself s), l)
  ],
)

-- no step tells more than the last one
known-le : (steps : List Step) → AreRising steps → (k : ℕ) (d : Step) → k < length steps → (slice_index_or steps k d).known ≤ latest steps
known-le steps rising k d l =
    let m = length steps - 1 in
    let e = get_or_default steps k d nothing l in
    elim (cases_eq k m) [
      | inl q ↦ let f : (slice_index_or steps k d).known ≡ latest steps = ap (λ (s : Step). s.known) e ∙ ap (λ (i : ℕ). (slice_index_or steps i nothing).known) q in omega arith
      | inr n ↦ let r = (rising k m nothing (omega arith) (omega arith)).1 in let f = ap (λ (s : Step). s.known) e in omega arith
    ]

last_tells : (steps : List Step) (x : ℕ) → x < latest steps → Tell steps x
last_tells [] x l = absurd (omega arith)
last_tells (s ∷ steps) x l =
    let m = length (s ∷ steps) - 1 in
    let b : m < length (s ∷ steps) = omega arith in
    let y = slice_index_or (s ∷ steps) m nothing in
    (y, (m, b, get_or_default (s ∷ steps) m y nothing b), l)

-- steps that rise tell what the last one tells
pub tell_latest : (steps : List Step) → AreRising steps → (x : ℕ) → Tell steps x ↔ (x < latest steps)
tell_latest steps rising x = (
  λ t.
      let k = known-le steps rising t.1.0 t.0 t.1.1 in
      let e = ap (λ (s : Step). s.known) t.1.2 in
      let l = t.2 in
      omega arith,
  last_tells steps x,
)

-- the steps after one more event tell what they told, and what is heard by it
pub tell_after : (at k : ℕ) (steps : List Step) (x : ℕ) → AreRising steps → Tell (steps_after at k steps) x ↔ (Tell steps x ⊎ (x < k))
tell_after at k steps x rising =
    elim (cases_lt (latest steps) k) [
      | inl l ↦ let t = lt-ltb (latest steps) k l in rw t (tell_push steps (record { at = at; known = k }) x)
      | inr l ↦
          let t = le-ltb (latest steps) k l in
          rw t (λ s. inl s, λ s. elim s [ inl c ↦ c | inr b ↦ (tell_latest steps rising x).1 (omega arith) ])
    ]

pub rising_after : (at k : ℕ) (steps : List Step) → AreRising steps → All (λ (s : Step). s.at ≤ at) steps → AreRising (steps_after at k steps)
rising_after at k steps rising early =
    elim (cases_lt (latest steps) k) [
      | inl l ↦
          let t = lt-ltb (latest steps) k l in
          rw t (all_pairs_push (λ (a b : Step). (a.at ≤ b.at) × (a.known ≤ b.known)) steps (record { at = at; known = k }) rising
          (λ j d b. (early j d b, let m = known-le steps rising j d b in omega arith)))
      | inr l ↦ let t = le-ltb (latest steps) k l in rw t rising
    ]

pub early_after : (at k n : ℕ) (steps : List Step) → All (λ (s : Step). s.at < n) steps → at < n → All (λ (s : Step). s.at < n) (steps_after at k steps)
early_after at k n steps early now =
    elim (cases_lt (latest steps) k) [
      | inl l ↦
          let t = lt-ltb (latest steps) k l in
          let s : Step = record { at = at; known = k } in
          rw t (All-append (λ (s : Step). s.at < n) steps (s ∷ []) early (All-cons (λ (s : Step). s.at < n) s [] now (All-nil (λ (s : Step). s.at < n))))
      | inr l ↦ let t = le-ltb (latest steps) k l in rw t early
    ]

by_push : (at k a : ℕ) (steps : List Step) (x : ℕ) → a < at → TellBy (steps ++ record { at = at; known = k } ∷ []) a x ↔ TellBy steps a x
by_push at k a steps x later = (
  λ t. elim (Contains-append_cases steps (record { at = at; known = k } ∷ []) t.0 t.1) [
    | inl c ↦ (t.0, c, t.2, t.3)
    | inr c ↦
        let e = ap (λ (s : Step). s.at) (single (record { at = at; known = k }) t.0 c) in
        let l = t.2 in
        absurd (omega arith)
  ],
  λ t. (t.0, Contains-append_left steps (record { at = at; known = k } ∷ []) t.0 t.1, t.2, t.3),
)

-- what was told by an earlier event stays
pub by_after : (at k a : ℕ) (steps : List Step) (x : ℕ) → a < at → TellBy (steps_after at k steps) a x ↔ TellBy steps a x
by_after at k a steps x later =
    elim (cases_lt (latest steps) k) [
      | inl l ↦ let t = lt-ltb (latest steps) k l in rw t (by_push at k a steps x later)
      | inr l ↦ let t = le-ltb (latest steps) k l in rw t (λ s. s, λ s. s)
    ]

-- all steps so far were made by the last event or before
pub by_all : (a : ℕ) (steps : List Step) (x : ℕ) → All (λ (s : Step). s.at ≤ a) steps → TellBy steps a x ↔ Tell steps x
by_all a steps x early = (λ t. (t.0, t.1, t.3), λ t. (t.0, t.1, each (λ (s : Step). s.at ≤ a) steps t.0 early t.1, t.2))

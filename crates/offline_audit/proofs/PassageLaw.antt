-- One passage through two lists, each element of which comes before all later ones of its list.
use Rattle.std.proofs.Common.{◌≡◌, ℕ, ◌+◌, ◌<◌, ◌≤◌, ◌⊎◌, List, length, ap, ◌∙◌, subst, inl, inr, arith, AllPairs, Contains}
use Rattle.std.specs.Prelude.{slice_index_or}
use Rattle.std.proofs.lemmas.Bool.{cases_eq, cases_lt}
use Rattle.std.proofs.lemmas.List.{get_or_default}

-- all pairs of one of the first i and any of the others, or of any and one of the first j others, are in order
abbrev pub ArePassed : {X : Type 0} → (X → X → Type 0) → List X → List X → ℕ → ℕ → Type 0
ArePassed {X} R xs ys i j = (a b : ℕ) (d e : X) → a < length xs → b < length ys → (a < i) ⊎ (b < j) →
    R (slice_index_or xs a d) (slice_index_or ys b e) ⊎ R (slice_index_or ys b e) (slice_index_or xs a d)

module _ {X : Type 0} (R : X → X → Type 0) (trans : (x y z : X) → R x y → R y z → R x z) (xs ys : List X) (i j : ℕ) (d e : X) (l : i < length xs) (m : j < length ys)
    (passed : ArePassed R xs ys i j) where
  -- the other list's element comes before this one's, and so before all later ones
  pub pass_other : AllPairs R xs → R (slice_index_or ys j e) (slice_index_or xs i d) → ArePassed R xs ys i (j + 1)
  pass_other up r a b d' e' la lb o = elim (cases_lt a i) [
    | inl s ↦ passed a b d' e' la lb (inl s)
    | inr s ↦ elim (cases_lt b j) [
      | inl t ↦ passed a b d' e' la lb (inr t)
      | inr t ↦
          let q : b ≡ j = elim o [ inl u ↦ absurd (omega arith) | inr u ↦ omega arith ] in
          let y : slice_index_or ys b e' ≡ slice_index_or ys j e = ap (λ (k : ℕ). slice_index_or ys k e') q ∙ get_or_default ys j e' e m in
          elim (cases_eq a i) [
            | inl p ↦
                let x : slice_index_or xs a d' ≡ slice_index_or xs i d = ap (λ (k : ℕ). slice_index_or xs k d') p ∙ get_or_default xs i d' d l in
                inr (rw (x, y) r)
            | inr n ↦
                let x : slice_index_or xs i d ≡ slice_index_or xs i d' = get_or_default xs i d d' l in
                let r' : R (slice_index_or ys j e) (slice_index_or xs i d') = subst (λ (z : X). R (slice_index_or ys j e) z) x r in
                inr (rw y (trans (slice_index_or ys j e) (slice_index_or xs i d') (slice_index_or xs a d') r' (up i a d' (omega arith) la)))
          ]
    ]
  ]

  -- this list's element comes before the other one's, and so before all later ones
  pub pass_one : AllPairs R ys → R (slice_index_or xs i d) (slice_index_or ys j e) → ArePassed R xs ys (i + 1) j
  pass_one up r a b d' e' la lb o = elim (cases_lt a i) [
    | inl s ↦ passed a b d' e' la lb (inl s)
    | inr s ↦ elim (cases_lt b j) [
      | inl t ↦ passed a b d' e' la lb (inr t)
      | inr t ↦
          let p : a ≡ i = elim o [ inl u ↦ omega arith | inr u ↦ absurd (omega arith) ] in
          let x : slice_index_or xs a d' ≡ slice_index_or xs i d = ap (λ (k : ℕ). slice_index_or xs k d') p ∙ get_or_default xs i d' d l in
          elim (cases_eq b j) [
            | inl q ↦
                let y : slice_index_or ys b e' ≡ slice_index_or ys j e = ap (λ (k : ℕ). slice_index_or ys k e') q ∙ get_or_default ys j e' e m in
                inl (rw (x, y) r)
            | inr n ↦
                let y : slice_index_or ys j e ≡ slice_index_or ys j e' = get_or_default ys j e e' m in
                let r' : R (slice_index_or xs i d) (slice_index_or ys j e') = subst (λ (z : X). R (slice_index_or xs i d) z) y r in
                inl (rw x (trans (slice_index_or xs i d) (slice_index_or ys j e') (slice_index_or ys b e') r' (up j b e' (omega arith) lb)))
          ]
    ]
  ]

-- where the one list or the other is passed, all are in order
pub all_passed : {X : Type 0} (R : X → X → Type 0) (xs ys : List X) (i j : ℕ) → ArePassed R xs ys i j → (length xs ≤ i) ⊎ (length ys ≤ j) →
    (x y : X) → Contains xs x → Contains ys y → R x y ⊎ R y x
all_passed {X} R xs ys i j passed end x y (a, la, ea) (b, lb, eb) =
    let o : (a < i) ⊎ (b < j) = elim end [ inl l ↦ inl (omega arith) | inr l ↦ inr (omega arith) ] in
    subst (λ (z : X). R z y ⊎ R y z) ea (subst (λ (z : X). R (slice_index_or xs a x) z ⊎ R z (slice_index_or xs a x)) eb (passed a b x y la lb o))

pub none_passed : {X : Type 0} (R : X → X → Type 0) (xs ys : List X) → ArePassed R xs ys 0 0
none_passed R xs ys a b d e la lb (inl l) = absurd (omega arith)
none_passed R xs ys a b d e la lb (inr l) = absurd (omega arith)

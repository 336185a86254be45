-- A relation between each two elements of a list stays where elements are exchanged.
use Rattle.std.proofs.Common.{◌≡◌, ℕ, zero, suc, ◌<◌, List, [], ◌∷◌, length, get_or, refl, ap, ◌∙◌, inl, inr, ◌⊎◌, arith}
use Rattle.std.proofs.lemmas.Bool.{cases_eq}
use Rattle.std.proofs.lemmas.List.Sorted.{IsPermutation-keeps}
use Rattle.std.proofs.lemmas.List.Edits.{swapped_from_swap, length-swap}
use Rattle.std.specs.List.{swap, All}
use Rattle.std.specs.List.Sorted.{IsPermutation}

-- R holds of any two elements at different places
pub record EachTwo {X : Type 0} (R : X → X → Type 0) (xs : List X) : Type 0 where
  pub at : (i j : ℕ) (d : X) → i < length xs → j < length xs → (i ≡ j → ⊥) → R (get_or xs i d) (get_or xs j d)

-- where an element stood before an exchange of a and b
record WasAt {X : Type 0} (xs ys : List X) (a b k m : ℕ) (d : X) : Type 0 where
  in_range : m < length xs
  same : get_or ys k d ≡ get_or xs m d
  cases : ((k ≡ a) × (m ≡ b)) ⊎ (((k ≡ b) × (m ≡ a)) ⊎ ((k ≡ a → ⊥) × (k ≡ b → ⊥) × (m ≡ k)))

was_at : {X : Type 0} (xs : List X) (a b k : ℕ) (d : X) → a < length xs → b < length xs → k < length xs → (m : ℕ) × WasAt xs (swap xs a b) a b k m d
was_at xs a b k d ina inb ink =
    let moved = swapped_from_swap xs (swap xs a b) a b d ina inb refl in
    elim (cases_eq k a) [
      | inl first ↦ (b, record { in_range = inb; same = ap (λ (n : ℕ). get_or (swap xs a b) n d) first ∙ moved.0; cases = inl (first, refl) })
      | inr not_first ↦ elim (cases_eq k b) [
        | inl second ↦ (a, record { in_range = ina; same = ap (λ (n : ℕ). get_or (swap xs a b) n d) second ∙ moved.1; cases = inr (inl (second, refl)) })
        | inr not_second ↦ (k, record { in_range = ink; same = moved.2 k not_first not_second; cases = inr (inr (not_first, not_second, refl)) })
      ]
    ]

-- different places were different
apart_before : (a b i j m n : ℕ)
    → ((i ≡ a) × (m ≡ b)) ⊎ (((i ≡ b) × (m ≡ a)) ⊎ ((i ≡ a → ⊥) × (i ≡ b → ⊥) × (m ≡ i)))
    → ((j ≡ a) × (n ≡ b)) ⊎ (((j ≡ b) × (n ≡ a)) ⊎ ((j ≡ a → ⊥) × (j ≡ b → ⊥) × (n ≡ j)))
    → (i ≡ j → ⊥) → m ≡ n → ⊥
apart_before a b i j m n p q ne e = grind arith

pub EachTwo-swap : {X : Type 0} (R : X → X → Type 0) (xs : List X) (a b : ℕ) → a < length xs → b < length xs → EachTwo R xs → EachTwo R (swap xs a b)
EachTwo-swap R xs a b ina inb all =
    let len = length-swap xs a b in
    record {
      at = λ i j d ini inj ne.
          let (m, wm) = was_at xs a b i d ina inb (omega arith) in
          let (n, wn) = was_at xs a b j d ina inb (omega arith) in
          let held = all.at m n d wm.in_range wn.in_range (apart_before a b i j m n wm.cases wn.cases ne) in
          rw (wm.same, wn.same) held;
    }

pub EachTwo-permutation : {X : Type 0} (R : X → X → Type 0) (xs ys : List X) → IsPermutation xs ys → EachTwo R xs → EachTwo R ys
EachTwo-permutation R xs ys p all =
    IsPermutation-keeps xs (EachTwo R) all (λ l i j ini inj held. EachTwo-swap R l i j ini inj held) ys p

pub EachTwo-nil : {X : Type 0} (R : X → X → Type 0) → EachTwo R []
EachTwo-nil R = record { at = λ i j d ini inj ne. absurd (omega arith) }

pub EachTwo-tail : {X : Type 0} (R : X → X → Type 0) (x : X) (xs : List X) → EachTwo R (x ∷ xs) → EachTwo R xs
EachTwo-tail R x xs all = record { at = λ i j d ini inj ne. all.at (suc i) (suc j) d (omega arith) (omega arith) (λ e. ne (omega arith)) }

pub EachTwo-head : {X : Type 0} (R : X → X → Type 0) (x : X) (xs : List X) → EachTwo R (x ∷ xs) → All (R x) xs
EachTwo-head R x xs all k d lt = all.at zero (suc k) d (omega arith) (omega arith) (λ e. omega arith)

two_of_cons : {X : Type 0} (R : X → X → Type 0) (x : X) (xs : List X) → All (R x) xs → All (λ y. R y x) xs → EachTwo R xs → (i j : ℕ) (d : X) → i < length (x ∷ xs) → j < length (x ∷ xs) → (i ≡ j → ⊥) → R (get_or (x ∷ xs) i d) (get_or (x ∷ xs) j d)
two_of_cons R x xs to from rest zero zero d ini inj ne = absurd (ne refl)
two_of_cons R x xs to from rest zero (suc j) d ini inj ne = to j d (omega arith)
two_of_cons R x xs to from rest (suc i) zero d ini inj ne = from i d (omega arith)
two_of_cons R x xs to from rest (suc i) (suc j) d ini inj ne = rest.at i j d (omega arith) (omega arith) (λ e. ne (omega arith))

pub EachTwo-cons : {X : Type 0} (R : X → X → Type 0) (x : X) (xs : List X) → All (R x) xs → All (λ y. R y x) xs → EachTwo R xs → EachTwo R (x ∷ xs)
EachTwo-cons R x xs to from rest = record { at = λ i j d ini inj ne. two_of_cons R x xs to from rest i j d ini inj ne }

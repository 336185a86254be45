-- Lists that grow at their end.
use Rattle.std.proofs.Common.{◌≡◌, ℕ, zero, suc, ◌+◌, ◌<◌, List, [], ◌∷◌, ◌++◌, length, take, get_or, refl, sym, ap, ◌∙◌, subst, arith}
use mathlib.Core.Logic.{dite}
use mathlib.Core.Option.{some, some-injective, some-ne-none}
use native.Mathlib.Decide.{ℕ_discrete}
use lib.ListN.{get_elem?}

module _ {A : Type 0} where
  pub snoc_here : (l : List A) (x d : A) (i : ℕ) → length l ≡ i → get_or (l ++ x ∷ []) i d ≡ x
  snoc_here [] x d zero e = refl
  snoc_here [] x d (suc i) e = absurd (omega arith)
  snoc_here (y ∷ l) x d zero e = absurd (omega arith)
  snoc_here (y ∷ l) x d (suc i) e = snoc_here l x d i (omega arith)

  pub snoc_before : (l : List A) (x d : A) (i : ℕ) → i < length l → get_or (l ++ x ∷ []) i d ≡ get_or l i d
  snoc_before [] x d i h = absurd (omega arith)
  snoc_before (y ∷ l) x d zero h = refl
  snoc_before (y ∷ l) x d (suc i) h = snoc_before l x d i (omega arith)

  pub at_get : (l : List A) (i : ℕ) (a d : A) → get_elem? l i ≡ some a → get_or l i d ≡ a
  at_get [] i a d e = absurd (some-ne-none a (sym e))
  at_get (x ∷ xs) zero a d e = some-injective x a e
  at_get (x ∷ xs) (suc i) a d e = at_get xs i a d e

  pub some_at : (l : List A) (i : ℕ) → i < length l → (a : A) × (get_elem? l i ≡ some a)
  some_at [] i h = absurd (omega arith)
  some_at (x ∷ xs) zero h = (x, refl)
  some_at (x ∷ xs) (suc i) h = some_at xs i (omega arith)

  -- a fact of each place, after one more
  pub each_more : (P : ℕ → A → Type 0) (l : List A) (x d : A) (i : ℕ) → length l ≡ i → ((k : ℕ) → k < i → P k (get_or l k d)) → P i x → (k : ℕ) → k < i + 1 → P k (get_or (l ++ x ∷ []) k d)
  each_more P l x d i e old new k h = dite (ℕ_discrete k i)
      (λ same. let v : get_or (l ++ x ∷ []) k d ≡ x = snoc_here l x d k (e ∙ sym same) in subst (λ (z : ℕ × A). P z.0 z.1) (λ j. (sym same j, sym v j)) new)
      (λ other. subst (P k) (sym (snoc_before l x d k (omega arith))) (old k (omega arith)))

  pub at_front : (l m : List A) (i : ℕ) → i < length l → get_elem? (l ++ m) i ≡ get_elem? l i
  at_front [] m i h = absurd (omega arith)
  at_front (x ∷ xs) m zero h = refl
  at_front (x ∷ xs) m (suc i) h = at_front xs m i (omega arith)

  -- what `as_mut_slice` leaves in the Vec
  pub take_front : (l m : List A) (n : ℕ) → n ≡ length l → take n (l ++ m) ≡ l
  take_front [] m zero e = refl
  take_front [] m (suc n) e = absurd (omega arith)
  take_front (x ∷ xs) m zero e = absurd (omega arith)
  take_front (x ∷ xs) m (suc n) e = ap (λ (l : List A). x ∷ l) (take_front xs m n (omega arith))

  -- what an index gives, whatever stands for what is outside
  pub read_at : (l : List A) (i : ℕ) (x d : A) → i < length l → x ≡ get_or l i x → x ≡ get_or l i d
  read_at [] i x d h e = absurd (omega arith)
  read_at (y ∷ l) zero x d h e = e
  read_at (y ∷ l) (suc i) x d h e = read_at l i x d (omega arith) e

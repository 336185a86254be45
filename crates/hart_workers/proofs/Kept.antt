-- What is kept of threads, where the place of one changes.
use Rattle.std.proofs.Common.{◌≡◌, ◌≢◌, ◌<◌, ◌≤◌, ℕ, List, [], ◌∷◌, ◌++◌, length, None, Some, inl, inr, refl}
use Rattle.std.specs.Prelude.{Option, slice_set}
use Rattle.std.specs.List.{AllZip}
use Rattle.std.proofs.lemmas.Bool.{cases_lt}
use Rattle.std.proofs.lemmas.List.{get_or_past, get_or-set_same, get_or-set_other}
use Rattle.turn_orders.specs.Lists.{In}
use Rattle.hart_turns.specs.declared.slots.ThreadState.{ThreadState}
use Rattle.hart_workers.specs.Crews.{state_at}

pub state_here : (xs : List (Option ThreadState)) (t : ℕ) (o : Option ThreadState) → t < length xs → state_at (slice_set xs t o) t ≡ o
state_here xs t o l = get_or-set_same xs t o None l

pub state_else : (xs : List (Option ThreadState)) (t u : ℕ) (o : Option ThreadState) → u ≢ t → state_at (slice_set xs t o) u ≡ state_at xs u
state_else xs t u o ne = get_or-set_other xs t u o None ne

pub not_both : (o : Option ThreadState) (x : ThreadState) → o ≡ Some x → o ≡ None → ⊥
not_both o x e n = cc

pub state_past : (xs : List (Option ThreadState)) (t : ℕ) → length xs ≤ t → state_at xs t ≡ None
state_past xs t h = get_or_past xs t None h

pub state_within : (xs : List (Option ThreadState)) (t : ℕ) (x : ThreadState) → state_at xs t ≡ Some x → t < length xs
state_within xs t x e = elim (cases_lt t (length xs)) [
  | inl l ↦ l
  | inr g ↦ absurd (not_both (state_at xs t) x e (state_past xs t g))
]

-- ---- lists

pub zip_push : {A B : Type 0} (R : A → B → Type 0) (xs : List A) (ys : List B) (x : A) (y : B) → AllZip R xs ys → R x y →
    AllZip R (xs ++ x ∷ []) (ys ++ y ∷ [])
zip_push R [] [] x y z r = (r, tt)
zip_push R [] (b ∷ ys) x y z r = absurd z
zip_push R (a ∷ xs) [] x y z r = absurd z
zip_push R (a ∷ xs) (b ∷ ys) x y z r = (z.0, zip_push R xs ys x y z.1 r)

pub in_first : {X : Type 0} (x : X) (xs ys : List X) → In x xs → In x (xs ++ ys)
in_first x [] ys i = absurd i
in_first x (y ∷ xs) ys (inl e) = inl e
in_first x (y ∷ xs) ys (inr i) = inr (in_first x xs ys i)

pub in_last : {X : Type 0} (x : X) (xs : List X) → In x (xs ++ x ∷ [])
in_last x [] = inl refl
in_last x (y ∷ xs) = inr (in_last x xs)

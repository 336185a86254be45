-- Addresses of fields, and threads of a longer list.
use Rattle.std.proofs.Common.{◌≡◌, ℕ, zero, suc, ◌+◌, ◌%◌, ◌≤◌, inl, inr, List, [], ◌∷◌, ◌++◌, Some, slice_get, arith, subst}
use Rattle.guest_memory.specs.Fields.{IsField}
use Rattle.entry_calls.specs.Calls.{IsSize}
use Rattle.bare_machine.specs.Memory.{offset}

two : (addr : ℕ) → addr % 2 ≡ 0 → addr % 8 + 2 ≤ 8
two addr h = omega arith

four : (addr : ℕ) → addr % 4 ≡ 0 → addr % 8 + 4 ≤ 8
four addr h = omega arith

eight : (addr : ℕ) → addr % 8 ≡ 0 → addr % 8 + 8 ≤ 8
eight addr h = omega arith

-- a multiple of the size lies in one granule
pub field_at : (addr size : ℕ) → IsSize size → addr % size ≡ 0 → IsField (offset addr) size
field_at addr size (inl e) h = record { some = omega arith; within = omega arith }
field_at addr size (inr (inl e)) h = let w = two addr (subst (λ (s : ℕ). addr % s ≡ 0) e h) in record { some = omega arith; within = omega (arith, w) }
field_at addr size (inr (inr (inl e))) h = let w = four addr (subst (λ (s : ℕ). addr % s ≡ 0) e h) in record { some = omega arith; within = omega (arith, w) }
field_at addr size (inr (inr (inr e))) h = let w = eight addr (subst (λ (s : ℕ). addr % s ≡ 0) e h) in record { some = omega arith; within = omega (arith, w) }

-- a longer list has the same at the places that there were
pub get_longer : {X : Type 0} (xs ys : List X) (i : ℕ) (x : X) → slice_get xs i ≡ Some x → slice_get (xs ++ ys) i ≡ Some x
get_longer [] ys i x e = absurd (cc)
get_longer (y ∷ xs) ys zero x e = e
get_longer (y ∷ xs) ys (suc i) x e = get_longer xs ys i x e

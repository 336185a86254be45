-- Which attachment of a journal an epoch belongs to.
use Rattle.std.proofs.Common.{◌≡◌, ◌<◌, ℕ, zero, suc, true, false, max, leb, Some, None, List, [], ◌∷◌, length, get_or, replicate, refl, arith}
use Rattle.vector_clock.specs.Clocks.{joined}
use Rattle.slot_desk.specs.declared.slot.Attachment.{Attachment}
use Rattle.slot_desk.specs.Desks.{owner_at}

pub owner_at-none : (xs : List Attachment) (epoch : ℕ) → ((k : ℕ) (d : Attachment) → k < length xs → leb (get_or xs k d).epoch epoch ≡ false) → owner_at xs epoch ≡ None
owner_at-none [] epoch f = refl
owner_at-none (a ∷ xs) epoch f = rw (owner_at-none xs epoch (λ k d l. f (suc k) d (omega arith)), f zero a (omega arith)) refl

pub owner_at-some : (xs : List Attachment) (epoch i : ℕ) (e : Attachment) → i < length xs → leb (get_or xs i e).epoch epoch ≡ true → ((k : ℕ) (d : Attachment) → i < k → k < length xs → leb (get_or xs k d).epoch epoch ≡ false) → owner_at xs epoch ≡ Some (get_or xs i e).tid
owner_at-some [] epoch i e l h f = absurd (omega arith)
owner_at-some (a ∷ xs) epoch zero e l h f = rw (owner_at-none xs epoch (λ k d m. f (suc k) d (omega arith) (omega arith)), h) refl
owner_at-some (a ∷ xs) epoch (suc i) e l h f = rw (owner_at-some xs epoch i e (omega arith) h (λ k d m n. f (suc k) d (omega arith) (omega arith))) refl

-- a clock that knows nothing adds nothing
pub joined-nothing : (clock : List ℕ) (n : ℕ) → length clock ≡ n → joined clock (replicate n 0) ≡ clock
joined-nothing [] n e = refl
joined-nothing (x ∷ xs) zero e = absurd (omega arith)
joined-nothing (x ∷ xs) (suc n) e = let here : max x 0 ≡ x = omega arith in let rest = joined-nothing xs n (omega arith) in rw (here, rest) refl

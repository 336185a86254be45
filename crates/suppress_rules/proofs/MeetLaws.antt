-- Some rule is met just where there is a first one.
use Rattle.std.proofs.Common.{◌≡◌, ℕ, ◌+◌, ◌||◌, not, Bool, true, false, cond, ltb, List, [], ◌∷◌, length, Some, None, is_some, refl, ◌∙◌, sym, inl, inr, arith, suc}
use Rattle.std.proofs.lemmas.Bool.{cases_lt, lt-ltb, le-ltb}
use Rattle.std.specs.List.{list_any, position, position_or_len}

chosen : (b : Bool) (n : ℕ) → is_some (cond b (Some n) None) ≡ b
chosen true n = refl
chosen false n = refl

one_more : (a b : ℕ) → ltb (1 + a) (suc b) ≡ ltb a b
one_more a b =
    elim (cases_lt a b) [
      | inl l ↦ lt-ltb (1 + a) (suc b) (omega arith) ∙ sym (lt-ltb a b l)
      | inr l ↦ le-ltb (1 + a) (suc b) (omega arith) ∙ sym (le-ltb a b l)
    ]

within : {X : Type 0} (p : X → Bool) (xs : List X) → ltb (position_or_len p xs) (length xs) ≡ list_any p xs
within p [] = le-ltb 0 0 (omega arith)
within p (x ∷ xs) =
    elim (p x) as (λ t. ltb (cond (not t) (1 + position_or_len p xs) 0) (suc (length xs)) ≡ (t || list_any p xs)) [
      | true ↦ lt-ltb 0 (suc (length xs)) (omega arith)
      | false ↦ one_more (position_or_len p xs) (length xs) ∙ within p xs
    ]

pub position-is_some : {X : Type 0} (p : X → Bool) (xs : List X) → is_some (position p xs) ≡ list_any p xs
position-is_some p xs = chosen (ltb (position_or_len p xs) (length xs)) (position_or_len p xs) ∙ within p xs

-- Lists that begin with another.
use Rattle.std.proofs.Common.{◌≡◌, ℕ, zero, suc, List, [], ◌∷◌, ◌++◌, append_assoc, take, refl, sym, ap, ◌∙◌}
use Rattle.std.proofs.lemmas.List.{append-nil}
use Rattle.partial_runs.specs.Starts.{BeginsWith}

pub begins_itself : {X : Type 0} (xs : List X) → BeginsWith xs xs
begins_itself xs = record { rest = []; whole_is = sym (append-nil xs) }

pub begins_push : {X : Type 0} (xs ys : List X) → BeginsWith (xs ++ ys) xs
begins_push xs ys = record { rest = ys; whole_is = refl }

pub begins_twice : {X : Type 0} {xs ys zs : List X} → BeginsWith zs ys → BeginsWith ys xs → BeginsWith zs xs
begins_twice {xs = xs} a b = record { rest = b.rest ++ a.rest; whole_is = a.whole_is ∙ (ap (λ us. us ++ a.rest) b.whole_is ∙ append_assoc xs b.rest a.rest) }

-- the first elements of a list are the first ones of each longer list
pub first_of_longer : {X : Type 0} (n : ℕ) (xs ys : List X) → (m : ℕ) × (take m (xs ++ ys) ≡ take n xs)
first_of_longer zero xs ys = (0, refl)
first_of_longer (suc n) [] ys = (0, refl)
first_of_longer (suc n) (x ∷ xs) ys = let r = first_of_longer n xs ys in (suc r.0, ap (λ us. x ∷ us) r.1)

-- The test of two slices is the test of two stacks.
use Rattle.std.proofs.Common.{◌≡◌, ℕ, ◌==◌, ◌&&◌, List, [], ◌∷◌, refl, ap}
use Rattle.std.specs.Cmp.Lexicographic.{pointwise}
use Rattle.run_laws.specs.Reports.{same_places}

pub pointwise_places : (ps qs : List ℕ) → pointwise ◌==◌ ps qs ≡ same_places ps qs
pointwise_places [] [] = refl
pointwise_places [] (q ∷ qs) = refl
pointwise_places (p ∷ ps) [] = refl
pointwise_places (p ∷ ps) (q ∷ qs) = ap (λ rest. (p == q) && rest) (pointwise_places ps qs)

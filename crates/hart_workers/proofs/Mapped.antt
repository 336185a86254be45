-- Lists whose elements go together.
use Rattle.std.proofs.Common.{◌≡◌, Bool, List, [], ◌∷◌, refl, sym, ap, ◌∙◌}
use Rattle.std.specs.Prelude.{◌||◌, IsPermutation, map}
use Rattle.std.specs.List.{AllZip, list_any}
use Rattle.turn_orders.specs.Lists.{Each}
use Rattle.turn_orders.proofs.Members.{at_member, all_members}
use Rattle.turn_orders.proofs.Permuted.{same_members}

-- what holds of each number holds of what each element is mapped to
pub each_mapped : {X Y : Type 0} (P : Y → Type 0) (f : X → Y) (xs : List X) → Each P (map f xs) → Each (λ (x : X). P (f x)) xs
each_mapped P f [] e = tt
each_mapped P f (x ∷ xs) e = (e.0, each_mapped P f xs e.1)

-- some element has it just where some value is true
pub any_mapped : {X : Type 0} (f : X → Bool) (xs : List X) → list_any f xs ≡ list_any (λ (b : Bool). b) (map f xs)
any_mapped f [] = refl
any_mapped f (x ∷ xs) = ap (λ (b : Bool). f x || b) (any_mapped f xs)

pub any_alike : {X Y : Type 0} (f : X → Bool) (g : Y → Bool) (xs : List X) (ys : List Y) → map f xs ≡ map g ys → list_any f xs ≡ list_any g ys
any_alike f g xs ys e = any_mapped f xs ∙ (ap (list_any (λ (b : Bool). b)) e ∙ sym (any_mapped g ys))

-- what holds of each holds of each in another order
pub each_moved : {X : Type 0} (P : X → Type 0) (xs ys : List X) → IsPermutation xs ys → Each P xs → Each P ys
each_moved {X} P xs ys moved e = all_members P ys (λ (y : X) i. at_member P y xs e ((same_members xs ys moved y).1 i))

-- where each goes with a value that it is mapped to, the values are those
pub mapped_with : {X Y : Type 0} (R : Y → X → Type 0) (f : X → Y) (ys : List Y) (xs : List X) → ((y : Y) (x : X) → R y x → f x ≡ y) →
    AllZip R ys xs → map f xs ≡ ys
mapped_with R f [] [] h z = refl
mapped_with R f [] (x ∷ xs) h z = absurd z
mapped_with R f (y ∷ ys) [] h z = absurd z
mapped_with {Y = Y} R f (y ∷ ys) (x ∷ xs) h z = ap (λ (a : Y). a ∷ map f xs) (h y x z.0) ∙ ap (λ (l : List Y). y ∷ l) (mapped_with R f ys xs h z.1)

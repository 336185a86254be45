-- Lists: what stands in one, and what goes with it.
use Rattle.std.proofs.Common.{◌≡◌, ◌⊎◌, inl, inr, List, [], ◌∷◌, ◌++◌, refl, sym, ap, subst, ◌∙◌}
use Rattle.std.specs.List.{AllZip, flat_map}
use Rattle.turn_orders.specs.Lists.{In, InOrder}
use Rattle.turn_orders.proofs.Members.{at_member}

-- what goes with an element of the second list
pub zip_in : {X Y : Type 0} (R : X → Y → Type 0) (xs : List X) (ys : List Y) → AllZip R xs ys → (y : Y) → In y ys → (x : X) × In x xs × R x y
zip_in R [] [] z y i = absurd i
zip_in R [] (u ∷ ys) z y i = absurd z
zip_in R (x ∷ xs) [] z y i = absurd z
zip_in R (x ∷ xs) (u ∷ ys) z y (inl e) = (x, inl refl, subst (R x) (sym e) z.0)
zip_in R (x ∷ xs) (u ∷ ys) z y (inr i) = let r = zip_in R xs ys z.1 y i in (r.0, inr r.1, r.2)

-- an element of two lists behind one another is one of either
pub in_either : {X : Type 0} (x : X) (xs ys : List X) → In x (xs ++ ys) → In x xs ⊎ In x ys
in_either x [] ys i = inr i
in_either x (y ∷ xs) ys (inl e) = inl (inl e)
in_either x (y ∷ xs) ys (inr i) = elim (in_either x xs ys i) [ inl j ↦ inl (inr j) | inr j ↦ inr j ]

-- an element of all lists is one of one of them
pub in_one : {X : Type 0} (x : X) (xss : List (List X)) → In x (flat_map (λ (xs : List X). xs) xss) → (xs : List X) × In xs xss × In x xs
in_one x [] i = absurd i
in_one x (ys ∷ xss) i = elim (in_either x ys (flat_map (λ (xs : List _). xs) xss) i) [
  | inl j ↦ (ys, inl refl, j)
  | inr j ↦ (let r = in_one x xss j in (r.0, inr r.1, r.2))
]

-- of two elements of an ordered list, neither before the other, the one is the other
pub same_place : {X : Type 0} (R : X → X → Type 0) (xs : List X) → InOrder R xs → (x y : X) → In x xs → In y xs → (R x y → ⊥) → (R y x → ⊥) → x ≡ y
same_place R [] o x y i j n l = absurd i
same_place R (z ∷ xs) o x y (inl a) (inl b) n l = a ∙ sym b
same_place R (z ∷ xs) o x y (inl a) (inr j) n l = absurd (n (subst (λ u. R u y) (sym a) (at_member (R z) y xs o.0 j)))
same_place R (z ∷ xs) o x y (inr i) (inl b) n l = absurd (l (subst (λ u. R u x) (sym b) (at_member (R z) x xs o.0 i)))
same_place R (z ∷ xs) o x y (inr i) (inr j) n l = same_place R xs o.1 x y i j n l

abbrev first_or : {X : Type 0} → X → List X → X
first_or d [] = d
first_or d (x ∷ xs) = x

abbrev but_first : {X : Type 0} → List X → List X
but_first [] = []
but_first (x ∷ xs) = xs

-- equal lists have equal first elements and equal rests
pub same_first : {X : Type 0} (x y : X) (xs ys : List X) → x ∷ xs ≡ y ∷ ys → x ≡ y
same_first x y xs ys e = ap (first_or x) e

pub same_rest : {X : Type 0} (x y : X) (xs ys : List X) → x ∷ xs ≡ y ∷ ys → xs ≡ ys
same_rest x y xs ys e = ap but_first e

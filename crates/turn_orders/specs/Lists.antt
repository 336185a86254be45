-- Lists: what holds of each element, what stands in one, and which stand in order.
use Rattle.std.specs.Prelude.{◌≡◌, List, [], ◌∷◌, ◌⊎◌, ◌↔◌}

-- it holds of each element
abbrev pub Each : {X : Type 0} → (X → Type 0) → List X → Type 0
Each P [] = Unit {0}
Each P (x ∷ xs) = P x × Each P xs

-- x stands in the list
abbrev pub In : {X : Type 0} → X → List X → Type 0
In x [] = ⊥
In x (y ∷ ys) = (x ≡ y) ⊎ In x ys

-- each element stands in R to all after it
abbrev pub InOrder : {X : Type 0} → (X → X → Type 0) → List X → Type 0
InOrder R [] = Unit {0}
InOrder R (x ∷ xs) = Each (R x) xs × InOrder R xs

-- what stands in the one stands in the other
abbrev pub SameMembers : {X : Type 0} → List X → List X → Type 0
SameMembers {X} xs ys = (x : X) → In x xs ↔ In x ys

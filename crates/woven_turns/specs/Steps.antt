-- Where the steps of seats stand in the past of a shared table, and which gives raise the stamp of their object.
use Rattle.std.specs.Prelude.{◌≡◌, ℕ, ◌≤◌, [], ◌∷◌, ◌⊎◌}
use Rattle.shared_table.specs.declared.object.Object.{Object}
use Rattle.shared_table.specs.declared.view.Item.{Item}
use Rattle.shared_table.specs.declared.view.Item.TheVariants.{Split, Join, Take, Give, Load, Store}
use Rattle.shared_table.specs.Past.{Past}

-- The step y, of a seat, stands in the past right after the steps `early`. So its place in the past is the length of those.
abbrev pub Stands : Past → Past → (ℕ × Item) → Type 0
Stands [] early y = ⊥
Stands (x ∷ past) early y = ((x ≡ y) × (past ≡ early)) ⊎ Stands past early y

-- A give leaves its object with a stamp that isn't below the one that it found. Other steps change no object. The function
-- gives the stamp that an object has.
abbrev pub Raises : (Object → ℕ) → Item → Type 0
Raises value_stamp (Give k i found left) = value_stamp found ≤ value_stamp left
Raises value_stamp (Take k i) = Unit {0}
Raises value_stamp (Split m) = Unit {0}
Raises value_stamp (Join m) = Unit {0}
Raises value_stamp (Load c w) = Unit {0}
Raises value_stamp (Store c w) = Unit {0}

-- each step of the past does
abbrev pub AllRaise : (Object → ℕ) → Past → Type 0
AllRaise value_stamp [] = Unit {0}
AllRaise value_stamp (x ∷ past) = Raises value_stamp x.1 × AllRaise value_stamp past

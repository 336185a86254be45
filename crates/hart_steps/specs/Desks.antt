-- The desk without the threads that live, which the layer above keeps.
use Rattle.std.specs.Prelude.{◌≡◌, ℕ, ◌<◌, Bool, true, false, if◌then◌else◌, List, [], ◌∷◌, ◌++◌, count_by, slice_get, slice_set, Option, Some}
use Rattle.place_turns.specs.Places.{Desk, Value, of_desk}
use Rattle.machine_desk.specs.declared.MachineDesk.{MachineDesk}
use Rattle.bare_machine.specs.declared.request.Request.{Request}
use Rattle.bare_machine.specs.declared.request.Request.TheVariants as kinds

-- the desk where these threads live, by number
abbrev pub desk_with : MachineDesk → List Bool → Desk
desk_with d lives = record { made = d.made; lives = lives; output = d.output; ended = d.ended }

abbrev pub desk_value : MachineDesk → List Bool → Value
desk_value d lives = of_desk (desk_with d lives)

-- a join is told whether its thread lives, if it was made
abbrev pub IsJoinedOf : Request → List Bool → Option Bool → Type 0
IsJoinedOf (kinds.Join of) lives joined = joined ≡ slice_get lives of
IsJoinedOf _ lives joined = Unit {0}

-- what is told of the threads that live
pub record IsToldOf (r : Request) (lives : List Bool) (living : ℕ) (joined : Option Bool) : Type 0 where
  pub count : living ≡ count_by (λ (b : Bool). b) lives
  pub joined_is : IsJoinedOf r lives joined

-- a thread that was made and has ended is one of the first 1,024
abbrev pub IsKnown : Request → Option Bool → Type 0
IsKnown (kinds.Join of) joined = joined ≡ Some false → of < 1024
IsKnown _ joined = Unit {0}

-- which threads live after a request: a new one does, and one that stops does not
abbrev pub lives_after : ℕ → Bool → Request → List Bool → List Bool
lives_after t full (kinds.Create pc argument stack) lives = if full then lives else lives ++ true ∷ []
lives_after t full (kinds.Stop end) lives = slice_set lives t false
lives_after t full _ lives = lives

-- A machine that follows the deeds of another one, deed by deed.
use Rattle.std.specs.Prelude.{◌≡◌, List, [], ◌∷◌}
use Rattle.std.specs.List.{AllZip}
use Rattle.turn_orders.specs.Machine.{Call, State, Turn, but, outcome, next, after}
use Rattle.turn_orders.specs.LineUp.{Deed, calls, IsLineUp}

-- the state after a deed, as the deed says
abbrev pub left_by : {L O A T : Type 0} → State L O → Deed L O A T → State L O
left_by m d = record { local = but m.local d.call.thread d.local_left; value = but m.value d.call.place d.left }

abbrev pub left_after : {L O A T : Type 0} → State L O → List (Deed L O A T) → State L O
left_after m [] = m
left_after m (d ∷ ds) = left_after (left_by m d) ds

-- the deed of a call in a state
abbrev pub deed_of : {L O A T : Type 0} → Turn L O A T → State L O → Call A → Deed L O A T
deed_of turn m c =
    let r = outcome turn m c in
    record { call = c; local_found = m.local c.thread; local_left = r.local; found = m.value c.place; left = r.value; told = r.told }

-- `act_of` gives the act by which the machine follows a deed.
module _ {L O A T M P B U : Type 0} (turn : Turn M P B U) (act_of : Deed L O A T → B) where
  abbrev pub call_of : Deed L O A T → Call B
  call_of d = record { thread = d.call.thread; place = d.call.place; act = act_of d }

  -- the deeds of the machine that follows, from a state of it on
  abbrev pub deeds_of : State M P → List (Deed L O A T) → List (Deed M P B U)
  deeds_of n [] = []
  deeds_of n (d ∷ ds) = deed_of turn n (call_of d) ∷ deeds_of (next turn n (call_of d)) ds

  -- `Matches` says what a deed and the one that follows it have in common, and `Stands` how the state that the deeds tell, the
  -- state of the machine and what else is kept go together.
  module _ {G : Type 0} (Matches : Deed L O A T → Deed M P B U → Type 0) (Stands : State L O → State M P → G → Type 0) where
    -- the machine follows one deed
    pub record Follows (m : State L O) (n : State M P) (d : Deed L O A T) : Type 0 where
      pub matches : Matches d (deed_of turn n (call_of d))
      pub kept : G
      pub stands : Stands (left_by m d) (next turn n (call_of d)) kept

    -- and all of a list; its deeds line up
    pub record FollowsAll (m : State L O) (n : State M P) (ds : List (Deed L O A T)) : Type 0 where
      pub matches : AllZip Matches ds (deeds_of n ds)
      pub line : IsLineUp turn n (deeds_of n ds)
      pub kept : G
      pub stands : Stands (left_after m ds) (after turn n (calls (deeds_of n ds))) kept

    -- From each state in which it stands, the machine follows each deed that is made so and that found what the state has.
    abbrev pub FollowsEach : (Deed L O A T → Type 0) → Type 0
    FollowsEach IsMade =
        (m : State L O) (n : State M P) (g : G) (d : Deed L O A T) → Stands m n g → IsMade d
        → m.local d.call.thread ≡ d.local_found → m.value d.call.place ≡ d.found → Follows m n d

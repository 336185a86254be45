-- The joint machine beside the bare machine and a history.
use Rattle.std.specs.Prelude.{◌≡◌, ℕ, List, [], ◌∷◌, map, is_some}
use Rattle.run_record.specs.declared.entry.DeskNote.TheVariants.{Nothing, Leave}
use Rattle.run_laws.specs.Moments.{Item, Does, Notes}
use Rattle.bare_machine.specs.World.{World}
use Rattle.bare_machine.specs.Step.{step}
use Rattle.std.specs.List.{flat_map}
use Rattle.turn_orders.specs.Machine.{Call, State, next}
use Rattle.turn_orders.specs.LineUp.{Deed, Stamped}
use Rattle.place_turns.specs.Wholes.{Whole, IsStateOf}
use Rattle.place_clocks.specs.Holds.{HasClocks, whole_at}
use Rattle.joint_turns.specs.Joint.{Local, Value, Act, attaches, steps, begins, leaves, joint_turn, IsPlaced, bare_of, clocks_of}

-- each call is placed in the state that the calls before it left
abbrev pub ArePlaced : List ℕ → ℕ → ℕ → State Local Value → List (Call Act) → Type 0
ArePlaced file harts g m [] = Unit {0}
ArePlaced file harts g m (c ∷ cs) = IsPlaced file (m.local c.thread) (m.value c.place) c.thread c.place c.act × ArePlaced file harts g (next (joint_turn file harts g) m c) cs

-- the bare machine's world after the calls
abbrev pub world_after : List ℕ → World → ℕ → Act → World
world_after file w t steps = (step file w t).world
world_after file w t _ = w

abbrev pub world_along : List ℕ → World → List (Call Act) → World
world_along file w [] = w
world_along file w (c ∷ cs) = world_along file (world_after file w c.thread c.act) cs

-- what an act tells: an instruction the bare machine's events
abbrev pub Tells : List ℕ → World → ℕ → Act → List Item → Type 0
Tells file w t attaches items = Unit {0}
Tells file w t steps items = items ≡ map (Does t) (step file w t).events
Tells file w t begins items = items ≡ Notes t Nothing ∷ []
Tells file w t (leaves label) items = items ≡ Notes t (Leave label) ∷ []

-- and so does each call
abbrev pub AllTell : List ℕ → World → List (Call Act) → List (List Item) → Type 0
AllTell file w [] told = told ≡ []
AllTell file w (c ∷ cs) [] = ⊥
AllTell file w (c ∷ cs) (items ∷ told) = Tells file w c.thread c.act items × AllTell file (world_after file w c.thread c.act) cs told

-- the threads that have taken what their creators left have arrived
abbrev pub whole_of : World → State Local Value → Whole
whole_of w m = record { world = w; arrived = λ t. is_some (m.local t).own.given }

-- The state has the world's threads, memory, output and end, and the labels, the clocks and the queue of the history at
-- position n.
pub record IsJoint (file : List ℕ) (harts g slots : ℕ) (w : World) (h : ℕ → Item) (n : ℕ) (m : State Local Value) : Type 0 where
  pub bare : IsStateOf file harts (whole_of w m) (bare_of m)
  pub clocks : HasClocks (whole_at g slots h n) (clocks_of m)

-- ---- turns of several acts, as they were made

-- a turn of several acts, which draws a stamp
abbrev pub StampedDeed : Type 0
StampedDeed = Deed (Stamped Local) (Stamped Value) (List Act) (Stamped (List (List Item)))

-- each act is placed by what the acts before it left
abbrev pub WerePlaced : List ℕ → ℕ → ℕ → Local → Value → ℕ → ℕ → List Act → Type 0
WerePlaced file harts g l v t k [] = Unit {0}
WerePlaced file harts g l v t k (a ∷ rest) =
    let r = joint_turn file harts g t a l v in
    IsPlaced file l v t k a × WerePlaced file harts g r.local r.value t k rest

-- so is each act of the turn, from what it found on
abbrev pub WasPlaced : List ℕ → ℕ → ℕ → StampedDeed → Type 0
WasPlaced file harts g d = WerePlaced file harts g d.local_found.state d.found.state d.call.thread d.call.place d.call.act

-- what each act of the turns told
abbrev pub told_of : List StampedDeed → List (List Item)
told_of ds = flat_map (λ (d : StampedDeed). d.told.state) ds

-- and all that as one list
abbrev pub items_of : List (List Item) → List Item
items_of told = flat_map (λ (items : List Item). items) told

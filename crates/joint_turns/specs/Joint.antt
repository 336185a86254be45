-- The machine with its labels and clocks: a turn does to both what each by itself does.
use Rattle.std.specs.Prelude.{◌≡◌, ◌<◌, ℕ, List, [], ◌∷◌, length, map, None}
use Rattle.run_record.specs.declared.event.Event.{Event}
use Rattle.run_record.specs.declared.entry.Label.{Label}
use Rattle.run_laws.specs.Moments.{Item, Does}
use Rattle.bare_machine.specs.Step.{desk}
use Rattle.turn_orders.specs.Machine.{Outcome, State, Turn, many}
use Rattle.place_turns.specs.Places as machine
use Rattle.place_turns.specs.Turns as turns
use Rattle.place_turns.specs.Wholes as wholes
use Rattle.place_clocks.specs.Places as clocks
use Rattle.place_clocks.specs.Turns as events

-- a thread's own state of the machine, and its label and clock
pub record Local : Type 0 where
  pub bare : machine.Local
  pub own : clocks.Own

-- what a place has of memory or of threads, and of clocks
pub record Value : Type 0 where
  pub bare : machine.Value
  pub clocks : clocks.Value

-- A thread takes a slot, makes an instruction, or begins an entry without a note or with that of a label that it left.
pub data Act : Type 0 where
  attaches : Act
  steps : Act
  begins : Act
  leaves : Label → Act

abbrev pub Turned : Type 0
Turned = Outcome Local Value (List Item)

-- the machine's part stays
abbrev pub clocks_alone : Local → Value → Outcome clocks.Own clocks.Value (List Item) → Turned
clocks_alone l v c = record { local = record l { own = c.local }; value = record v { clocks = c.value }; told = c.told }

-- With a slot the thread takes itself from the desk, where it was made. Where no slot is free nothing happens.
abbrev pub attach_turn : List ℕ → ℕ → ℕ → ℕ → Local → Value → List ℕ → Turned
attach_turn file harts g t l v [] = record { local = l; value = v; told = [] }
attach_turn file harts g t l v (s ∷ rest) =
    let b = turns.bare_turn file harts t turns.arrives l.bare v.bare in
    let c = events.clock_turn g t events.attaches l.own v.clocks in
    record { local = record { bare = b.local; own = c.local }; value = record { bare = b.value; clocks = c.value }; told = c.told }

-- the events that the instruction tells are made one after another at its place
abbrev pub step_turn : ℕ → ℕ → Local → Value → Outcome machine.Local machine.Value (List Event) → Turned
step_turn g t l v b =
    let c = many (events.clock_turn g) t (map events.does b.told) l.own v.clocks in
    record { local = record { bare = b.local; own = c.local }; value = record { bare = b.value; clocks = c.value }; told = map (Does t) b.told }

-- The turn of a thread of the file's machine, of whose threads so many may live, where g is the greatest epoch.
abbrev pub joint_turn : List ℕ → ℕ → ℕ → Turn Local Value Act (List Item)
joint_turn file harts g t attaches l v = attach_turn file harts g t l v (clocks.desk_in v.clocks).queue
joint_turn file harts g t steps l v = step_turn g t l v (turns.bare_turn file harts t turns.steps l.bare v.bare)
joint_turn file harts g t begins l v = clocks_alone l v (events.clock_turn g t events.begins l.own v.clocks)
joint_turn file harts g t (leaves label) l v = clocks_alone l v (events.clock_turn g t (events.leaves label) l.own v.clocks)

-- ---- states

abbrev pub bare_of : State Local Value → State machine.Local machine.Value
bare_of m = record { local = λ t. (m.local t).bare; value = λ k. (m.value k).bare }

abbrev pub clocks_of : State Local Value → State clocks.Own clocks.Value
clocks_of m = record { local = λ t. (m.local t).own; value = λ k. (m.value k).clocks }

abbrev pub joined : State machine.Local machine.Value → State clocks.Own clocks.Value → State Local Value
joined b c = record { local = λ t. record { bare = b.local t; own = c.local t }; value = λ k. record { bare = b.value k; clocks = c.value k } }

-- the first state, of so many slots
abbrev pub first_state : List ℕ → ℕ → State Local Value
first_state file slots = joined (wholes.first_state file) (events.first_state slots)

-- an era begins: the machine stays
abbrev pub era_after : ℕ → State Local Value → State Local Value
era_after slots m = joined (bare_of m) (events.era_after slots (clocks_of m))

-- A thread takes a slot at the desk once it was made, and where it has no label. It steps at the place that its own state
-- tells, if any. This is told by what the turn finds.
abbrev pub IsPlaced : List ℕ → Local → Value → ℕ → ℕ → Act → Type 0
IsPlaced file l v t k attaches = (k ≡ desk) × (l.own.label ≡ None) × (t < length (machine.desk_in v.bare).made)
IsPlaced file l v t k steps = wholes.IsAtPlace file l.bare t k
IsPlaced file l v t k begins = Unit {0}
IsPlaced file l v t k (leaves label) = Unit {0}

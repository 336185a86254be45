-- The bare machine along the same calls, and when a state by threads and places is that of its world.
use Rattle.std.specs.Prelude.{◌≡◌, ℕ, ◌<◌, ◌==◌, ◌&&◌, nat_lt, Bool, true, false, if◌then◌else◌, List, [], ◌∷◌, length, map, slice_get, slice_index, Option, Some, None}
use Rattle.run_record.specs.declared.event.Event.{Event}
use Rattle.elf_image.specs.File.{entry, granules_of, initial_word}
use Rattle.guest_memory.specs.Reservations.{stands}
use Rattle.bare_machine.specs.declared.thread.Thread.{Thread}
use Rattle.bare_machine.specs.Memory.{GuestMemory}
use Rattle.bare_machine.specs.World.{World, start, new_thread}
use Rattle.bare_machine.specs.Requests.{object_of, request}
use Rattle.bare_machine.specs.Step.{step, desk}
use Rattle.turn_orders.specs.Machine.{Call, State, but, next}
use Rattle.place_turns.specs.Places.{Local, Stripe, Desk, Value, of_stripe, of_desk, of_nobody, stripe_in, desk_in, IsAt, stripe_at, reserves}
use Rattle.place_turns.specs.Turns.{Act, arrives, steps, bare_turn}

-- the world of the bare machine, and which threads have arrived
pub record Whole : Type 0 where
  pub world : World
  pub arrived : ℕ → Bool

-- an arrival changes nothing in the world
abbrev pub whole_after : List ℕ → Whole → ℕ → Act → Whole
whole_after file g t arrives = record g { arrived = but g.arrived t true }
whole_after file g t steps = record g { world = (step file g.world t).world }

abbrev pub whole_next : List ℕ → Whole → Call Act → Whole
whole_next file g c = whole_after file g c.thread c.act

-- the events of the bare machine's step
abbrev pub events_at : List ℕ → Whole → ℕ → Act → List Event
events_at file g t arrives = []
events_at file g t steps = (step file g.world t).events

-- and of each call, one after another
abbrev pub events_along : List ℕ → Whole → List (Call Act) → List (List Event)
events_along file g [] = []
events_along file g (c ∷ cs) = events_at file g c.thread c.act ∷ events_along file (whole_next file g c) cs

-- A thread arrives at the desk once it was made. It steps once it has arrived, at the place of the object that its
-- instruction uses, if any.
abbrev pub MayAct : List ℕ → Whole → ℕ → ℕ → Act → Type 0
MayAct file g t k arrives = (k ≡ desk) × (t < length g.world.threads)
MayAct file g t k steps = (g.arrived t ≡ true) × IsAt k (step file g.world t).object

abbrev pub May : List ℕ → Whole → Call Act → Type 0
May file g c = MayAct file g c.thread c.place c.act

-- ---- the same places, as the machine itself tells them

-- the thread has arrived, and is at the place that its own state tells, if any
pub record IsAtPlace (file : List ℕ) (l : Local) (t k : ℕ) : Type 0 where
  pub thread : Thread
  pub arrived : l.thread ≡ Some thread
  pub place : IsAt k (object_of (request file t thread))

abbrev pub desk_of : State Local Value → Desk
desk_of m = desk_in (m.value desk)

-- A thread arrives at the desk once it is there, as it was made.
abbrev pub IsPlacedAct : List ℕ → State Local Value → ℕ → ℕ → Act → Type 0
IsPlacedAct file m t k arrives = (k ≡ desk) × (t < length (desk_of m).made)
IsPlacedAct file m t k steps = IsAtPlace file (m.local t) t k

-- each call is placed in the state that the calls before it left
abbrev pub ArePlaced : List ℕ → ℕ → State Local Value → List (Call Act) → Type 0
ArePlaced file harts m [] = Unit {0}
ArePlaced file harts m (c ∷ cs) = IsPlacedAct file m c.thread c.place c.act × ArePlaced file harts (next (bare_turn file harts) m c) cs

-- ---- the first of both

abbrev pub first_whole : List ℕ → ℕ → Whole
first_whole file harts = record { world = start file harts; arrived = λ t. false }

-- memory as the file has it, and the main thread at the desk
abbrev pub first_stripe : List ℕ → Stripe
first_stripe file = record { words = initial_word file; reservations = [] }

abbrev pub first_desk : List ℕ → Desk
first_desk file = record { made = new_thread (entry file) 0 0x80000000 ∷ []; lives = true ∷ []; output = []; ended = None }

abbrev pub first_value : List ℕ → ℕ → Value
first_value file k = if k == desk then of_desk (first_desk file) else if nat_lt k desk then of_stripe (first_stripe file) else of_nobody

abbrev pub first_state : List ℕ → State Local Value
first_state file = record { local = λ t. record { thread = None; reserved = None }; value = first_value file }

-- ---- the state of a world

-- A thread that has arrived is the world's. Until then it waits as it was made, and hasn't changed since. Of each it is told
-- whether it lives.
pub record HasThreads (threads : List Thread) (arrived : ℕ → Bool) (own : ℕ → Option Thread) (made : List Thread) (lives : List Bool) : Type 0 where
  pub here : (t : ℕ) → arrived t ≡ true → own t ≡ slice_get threads t
  pub absent : (t : ℕ) → arrived t ≡ false → own t ≡ None
  pub waiting : (t : ℕ) → arrived t ≡ false → slice_get made t ≡ slice_get threads t
  pub inside : (t : ℕ) → arrived t ≡ true → t < length threads
  pub count : length made ≡ length threads
  pub living : lives ≡ map (λ (x : Thread). x.lives) threads

-- Each granule's word is that of its stripe. A reservation stands where it is the thread's last and its stripe has it still.
pub record HasMemory (file : List ℕ) (memory : GuestMemory) (reserved : ℕ → Option ℕ) (stripes : ℕ → Stripe) : Type 0 where
  pub granules : length memory.words ≡ granules_of file
  pub words : (n : ℕ) → n < granules_of file → (stripes (stripe_at file n)).words n ≡ slice_index memory.words n
  pub reservations : (t n : ℕ) → n < granules_of file → stands memory.reservations t n ≡ (reserves (reserved t) n && stands (stripes (stripe_at file n)).reservations t n)

-- The state has the world's threads, memory, output and end.
pub record IsStateOf (file : List ℕ) (harts : ℕ) (g : Whole) (m : State Local Value) : Type 0 where
  pub threads : HasThreads g.world.threads g.arrived (λ t. (m.local t).thread) (desk_of m).made (desk_of m).lives
  pub memory : HasMemory file g.world.memory (λ t. (m.local t).reserved) (λ k. stripe_in (m.value k))
  pub harts_are : g.world.harts ≡ harts
  pub output : (desk_of m).output ≡ g.world.output
  pub ended : (desk_of m).ended ≡ g.world.ended

-- What a worker says of the instructions of one entry, and how the entry tells them.
use Rattle.std.specs.Prelude.{◌≡◌, ℕ, ◌+◌, List, [], ◌∷◌, ◌++◌, map, length, None}
use Rattle.std.specs.List.{AllZip, flat_map}
use Rattle.run_record.specs.declared.event.Event.{Event}
use Rattle.run_record.specs.declared.entry.Check.{Check}
use Rattle.run_record.specs.declared.entry.Entry.{Entry}
use Rattle.run_record.specs.declared.entry.DeskNote.{DeskNote}
use Rattle.run_record.specs.declared.entry.DeskNote.TheVariants.{Nothing, Attach, Leave}
use Rattle.run_record.specs.declared.entry.Label.{Label}
use Rattle.run_record.specs.declared.limits.Limits.{Limits}
use Rattle.run_laws.specs.Moments.{Moment, entry_moments}
use Rattle.run_laws.specs.Checks.{IsGrouped}
use Rattle.bare_machine.specs.World.{World}
use Rattle.bare_machine.specs.Step.{desk}
use Rattle.turn_orders.specs.Machine.{State, next, many, single}
use Rattle.joint_turns.specs.Joint.{Value}
use Rattle.watched_turns.specs.Turns.{Local, Act, attaches, steps, begins, leaves, watched_turn}
use Rattle.watched_turns.specs.Along.{WerePlaced, all_of}
use Rattle.turn_orders.specs.Lists.{Each}
use Rattle.watched_turns.specs.Checking.{Loads}
use Rattle.turn_histories.specs.Entries.{IsAlive, IsPlaceOf, next_object, MakesEntry, IsTold}
use Rattle.placed_detector.specs.Standing.{Hand, Held, Standing, left_with}
use Rattle.placed_detector.specs.Instructions.{MakesInstruction}
use Rattle.placed_detector.specs.Slots.{TakesSlot, LeavesSlot}

-- an instruction that was made: the words that its checks loaded, its events, and the checks of each
pub record Made : Type 0 where
  pub loads : Loads
  pub events : List Event
  pub checks : List (List Check)

abbrev pub all_events : List Made → List Event
all_events [] = []
all_events (x ∷ xs) = x.events ++ all_events xs

abbrev pub all_checks : List Made → List (List Check)
all_checks [] = []
all_checks (x ∷ xs) = x.checks ++ all_checks xs

-- Thread t makes these instructions at place k, one after another. It lives at each, only the last uses an object, and the
-- place is that of the last.
abbrev pub AreMade : List ℕ → ℕ → ℕ → ℕ → ℕ → List Made → Hand → Hand → Held → Held → Type 0
AreMade file harts era t k [] found left place_found place_left = ⊥
AreMade file harts era t k (x ∷ []) found left place_found place_left =
    MakesInstruction file harts era t k x.loads x.events x.checks found left place_found place_left
    × IsAlive found.bare × IsPlaceOf k t (next_object file t found.bare.thread)
AreMade file harts era t k (x ∷ (y ∷ rest)) found left place_found place_left =
    (hand : Hand) × (held : Held)
    × MakesInstruction file harts era t k x.loads x.events x.checks found hand place_found held
    × IsAlive found.bare × (next_object file t found.bare.thread ≡ None)
    × AreMade file harts era t k (y ∷ rest) hand left held place_left

-- each check names its event by the event's place in the entry, of which the first of these is the n-th
abbrev pub AreNumbered : ℕ → List (List Check) → Type 0
AreNumbered n [] = Unit {0}
AreNumbered n (checks ∷ rest) = Each (λ (c : Check). c.event ≡ n) checks × AreNumbered (n + 1) rest

-- the entry of these instructions
pub record TellsMade (t : ℕ) (xs : List Made) (e : Entry) : Type 0 where
  pub thread : e.tid ≡ t
  pub steps : e.steps ≡ length xs
  pub note : e.note ≡ Nothing
  pub events : e.events ≡ all_events xs
  pub checks : e.checks ≡ flat_map (λ (cs : List Check). cs) (all_checks xs)
  pub numbered : AreNumbered 0 (all_checks xs)

-- ---- entries of slots

-- the entry of a slot that is taken or left has no instruction
pub record TellsNote (t : ℕ) (note : DeskNote) (e : Entry) : Type 0 where
  pub thread : e.tid ≡ t
  pub steps : e.steps ≡ 0
  pub note_is : e.note ≡ note
  pub events : e.events ≡ []
  pub checks : e.checks ≡ []

-- ---- deeds

-- What a worker says of one deed of thread t at place k, in that era: which acts it was, and the entry that tells it. The thread
-- takes or leaves a slot at the desk, or makes instructions.
pub data IsDeed (file : List ℕ) (limits : Limits) (era t k : ℕ) (found left : Hand)
    (place_found place_left : Held) (e : Entry) : List Act → Type 0 where
  Takes : (label : Label) → k ≡ desk → TakesSlot limits era t label found left place_found place_left →
      TellsNote t (Attach label) e → IsDeed file limits era t k found left place_found place_left e
      (attaches ∷ [])
  Leaves : (label : Label) → k ≡ desk → LeavesSlot era t label found place_found place_left → left ≡ found →
      TellsNote t (Leave label) e → IsDeed file limits era t k found left place_found place_left e
      (leaves label ∷ [])
  Makes : (xs : List Made) → AreMade file limits.harts era t k xs found left place_found place_left →
      TellsMade t xs e → IsDeed file limits era t k found left place_found place_left e
      (begins ∷ map (λ (x : Made). steps x.loads) xs)

-- ---- what a deed comes to

-- The watched machine makes the acts as one turn, the entry tells it, and all stands in the history with the entry.
pub record IsFollowed (file : List ℕ) (limits : Limits) (c : State Hand Held) (m : State Local Value)
    (h : List Moment) (t k : ℕ) (hand : Hand) (held : Held) (e : Entry) (acts : List Act) : Type 0 where
  pub world : World
  pub stands : Standing file limits (left_with c t k hand held)
      (next (many (watched_turn file limits.harts limits.epochs)) m (single t k acts)) world
      (h ++ entry_moments 0 e)
  pub makes : MakesEntry file limits.harts limits.epochs (m.local t) (m.value k) t k acts e.note e.steps
  pub placed : WerePlaced file limits.harts limits.epochs (m.local t) (m.value k) t k acts
  pub told : AllZip IsTold (entry_moments 0 e) (all_of (many
      (watched_turn file limits.harts limits.epochs) t acts (m.local t) (m.value k)).told)
  pub grouped : IsGrouped e

-- When an entry of a history tells a turn that was made.
use Rattle.std.specs.Prelude.{◌≡◌, ℕ, ◌+◌, ◌≤◌, List, [], ◌∷◌, map, length, Option, Some, None, true}
use Rattle.std.specs.List.{AllZip}
use Rattle.run_record.specs.declared.entry.Entry.{Entry}
use Rattle.run_record.specs.declared.entry.DeskNote.{DeskNote}
use Rattle.run_record.specs.declared.entry.DeskNote.TheVariants.{Nothing, Attach, Leave}
use Rattle.run_laws.specs.Moments.{Moment, entry_moments}
use Rattle.run_laws.specs.Checks.{IsGrouped}
use Rattle.bare_machine.specs.declared.thread.Thread.{Thread}
use Rattle.bare_machine.specs.Requests.{object_of, request}
use Rattle.bare_machine.specs.Step.{desk}
use Rattle.place_turns.specs.Places as machine
use Rattle.joint_turns.specs.Joint.{Value}
use Rattle.watched_turns.specs.Checking.{Loads, checked_of}
use Rattle.watched_turns.specs.Turns.{Local, Act, attaches, steps, begins, leaves, Told, watched_turn}
use Rattle.watched_turns.specs.Along.{StampedDeed, WasPlaced, all_of}

-- ---- where a turn is made

-- the object that the thread's next instruction uses, as its own state tells
abbrev pub next_object : List ℕ → ℕ → Option Thread → Option ℕ
next_object file t None = None
next_object file t (Some x) = object_of (request file t x)

-- A turn of thread t whose last instruction uses this object is at its place; one that uses none is at a place of the thread
-- alone, after those of the objects.
abbrev pub IsPlaceOf : ℕ → ℕ → Option ℕ → Type 0
IsPlaceOf k t None = k ≡ desk + 1 + t
IsPlaceOf k t (Some object) = (k ≡ object) × (object ≤ desk)

-- the thread has arrived and lives
pub record IsAlive (l : machine.Local) : Type 0 where
  pub thread : Thread
  pub arrived : l.thread ≡ Some thread
  pub lives : thread.lives ≡ true

-- The thread makes an instruction for each of these loads. It lives at each, only the last uses an object, and the turn is at
-- the place of that one.
abbrev pub MakesSteps : List ℕ → ℕ → ℕ → Local → Value → ℕ → ℕ → List Loads → Type 0
MakesSteps file harts g l v t k [] = ⊥
MakesSteps file harts g l v t k (x ∷ []) = IsAlive l.joint.bare × IsPlaceOf k t (next_object file t l.joint.bare.thread)
MakesSteps file harts g l v t k (x ∷ (y ∷ rest)) =
    let r = watched_turn file harts g t (steps x) l v in
    IsAlive l.joint.bare × (next_object file t l.joint.bare.thread ≡ None) × MakesSteps file harts g r.local r.value t k (y ∷ rest)

-- ---- the entry of a turn

-- The acts are those of an entry with this note and so many instructions: a slot that is taken or left at the desk, or
-- instructions.
abbrev pub MakesEntry : List ℕ → ℕ → ℕ → Local → Value → ℕ → ℕ → List Act → DeskNote → ℕ → Type 0
MakesEntry file harts g l v t k acts (Attach label) n = (acts ≡ attaches ∷ []) × (n ≡ 0) × (k ≡ desk)
MakesEntry file harts g l v t k acts (Leave label) n = (acts ≡ leaves label ∷ []) × (n ≡ 0) × (k ≡ desk)
MakesEntry file harts g l v t k acts Nothing n = (loads : List Loads) × (acts ≡ begins ∷ map steps loads) × (length loads ≡ n) × MakesSteps file harts g l v t k loads

-- the moment has the item and the checks that were told
pub record IsTold (m : Moment) (x : Told) : Type 0 where
  pub item : m.item ≡ x.item
  pub checks : map checked_of m.checks ≡ x.checks

-- The entry tells the turn: its thread, its stamp, its acts, and at its moments what the acts told.
pub record IsEntryOf (file : List ℕ) (harts g : ℕ) (d : StampedDeed) (e : Entry) : Type 0 where
  pub thread : d.call.thread ≡ e.tid
  pub stamp : d.local_left.last ≡ e.stamp
  pub makes : MakesEntry file harts g d.local_found.state d.found.state d.call.thread d.call.place d.call.act e.note e.steps
  pub placed : WasPlaced file harts g d
  pub told : AllZip IsTold (entry_moments 0 e) (all_of d.told.state)
  pub grouped : IsGrouped e

-- A slot for the next instruction, where that needs one.
use Rattle.std.specs.Prelude.{◌≡◌, ◌≢◌, ℕ, Bool, true, List, Option, None, Some}
use Rattle.run_record.specs.declared.limits.Limits.{Limits}
use Rattle.bare_machine.specs.Preview.{thread_needs}
use Rattle.turn_orders.specs.LineUp.{Stamped}
use Rattle.shared_table.specs.Past.{Log}
use Rattle.placed_detector.specs.Standing.{Hand}
use Rattle.hart_steps.specs.declared.hart.Hart.{Hart}
use Rattle.part_growth.specs.Growth.{nothing}
use Rattle.hart_turns.specs.declared.slots.ThreadState.{ThreadState}
use Rattle.hart_turns.specs.Slots.{hand_of}
use Rattle.part_workers.specs.declared.part.Post.{Post}
use Rattle.part_workers.specs.declared.part.PartSoFar.{PartSoFar}
use Rattle.part_workers.specs.Turns.{TakesAtDesk, TriesAtDesk}
use Rattle.part_workers.specs.Standing.{Stands, IsOfPart, MadeTurn}

-- The thread has a slot where it needs one: all is as it was, or it took one in a turn of the desk.
pub data HasSlot (limits : Limits) (post : Post) (needs : Bool) (old : ThreadState) (p : PartSoFar) (log : Log) :
    ThreadState → PartSoFar → Log → List ℕ → Type 0 where
  Had : (clock : List ℕ) → (needs ≡ true → old.watcher.label ≢ None) → HasSlot limits post needs old p log old p log clock
  Took : (new : ThreadState) (q : PartSoFar) (log' : Log) (clock : List ℕ) → needs ≡ true → old.watcher.label ≡ None →
      TakesAtDesk limits post old new p q clock log log' → HasSlot limits post needs old p log new q log' clock

-- It needs one and has none, and a turn of the desk found none that is free.
pub record Lacks (limits : Limits) (needs : Bool) (old new : ThreadState) (p q : PartSoFar) (log log' : Log) : Type 0 where
  pub needed : needs ≡ true
  pub unlabelled : old.watcher.label ≡ None
  pub tries : TriesAtDesk limits old new p q log log'

-- What stands of a part whose thread has arrived and lives stands so with its next instruction, and nothing is owed.
abbrev pub GoesOn : List ℕ → Limits → Post → ThreadState → ThreadState → PartSoFar → PartSoFar → Log → Log → Type 0
GoesOn file limits post old new p q log log' =
    (h : Hart) (before : Stamped Hand) → old.hart ≡ Some h → h.thread.lives ≡ true → IsOfPart limits post old →
    Stands file limits post before log (hand_of old None) p nothing →
    (y : Hart) × (new.hart ≡ Some y) × MadeTurn file limits post before log' y new.watcher p q

-- the thread lives, where it has arrived
abbrev pub IsLiving : Option Hart → Type 0
IsLiving None = Unit {0}
IsLiving (Some h) = h.thread.lives ≡ true

-- What stands of a part whose thread lives, or hasn't arrived, stands so with its next instruction, and nothing is owed.
abbrev pub Goes : List ℕ → Limits → Post → ThreadState → ThreadState → PartSoFar → PartSoFar → Log → Log → Type 0
Goes file limits post old new p q log log' =
    (before : Stamped Hand) → IsLiving old.hart → IsOfPart limits post old → Stands file limits post before log (hand_of old None) p nothing →
    (y : Hart) × (new.hart ≡ Some y) × MadeTurn file limits post before log' y new.watcher p q

-- its next instruction needs a slot, as the first one does
abbrev pub NeedsOne : List ℕ → ℕ → Option Hart → Type 0
NeedsOne file t None = Unit {0}
NeedsOne file t (Some h) = thread_needs file t (Some h.thread) ≡ true

-- The thread's next instruction needs a slot, the thread has none, and a turn of the desk found none that is free.
pub record FindsNoSlot (file : List ℕ) (limits : Limits) (post : Post) (old new : ThreadState) (p q : PartSoFar) (log log' : Log) : Type 0 where
  pub needs : NeedsOne file post.tid old.hart
  pub unlabelled : old.watcher.label ≡ None
  pub tries : TriesAtDesk limits old new p q log log'

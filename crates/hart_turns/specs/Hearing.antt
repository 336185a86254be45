-- What the events of a thread make of its watcher, and of an object of the table.
use Rattle.std.specs.Prelude.{◌≡◌, ◌<◌, ◌-◌, ◌^◌, ℕ, true, List, length, Option, Some, None}
use Rattle.run_record.specs.declared.entry.Check.{Check}
use Rattle.run_record.specs.declared.entry.Label.{Label}
use Rattle.run_record.specs.declared.event.Event.{Event}
use Rattle.run_record.specs.declared.event.Event.TheVariants as events
use Rattle.bare_machine.specs.Memory.{stripe}
use Rattle.slot_desk.specs.Desks.{DeskContents, thread_of}
use Rattle.sync_slab.specs.Objects.{SyncObjects}
use Rattle.trace_parts.specs.Held.{with_spare}
use Rattle.race_core.specs.Watched.{Watched, CanBeNoted}
use Rattle.race_core.specs.declared.watcher.Candidate.{Candidate}
use Rattle.shared_table.specs.Steps.{Mine}
use Rattle.thread_events.specs.Heard.{watcher_after, desk_after, ObjectsAfter, IsAtKeeper, IsGranted}
use Rattle.hart_events.specs.Events.{MayEnd, lost_after}
use Rattle.hart_turns.specs.declared.hear.Hearing.{Hearing}
use Rattle.hart_turns.specs.declared.hear.Hearing.TheVariants.{Heard, Refused}
use Rattle.hart_turns.specs.Checks.{Checks}

-- ---- whatever room there is

-- the watcher, whatever room its trace has for more events
abbrev pub at_rest : Watched → Watched
at_rest w = record w { trace = with_spare 0 w.trace }

-- the objects, whatever room there is for more
abbrev pub roomless : SyncObjects → SyncObjects
roomless set = record set { spare = 0 }

-- ---- what is asked

-- the thread has a label of one of so many slots, its clock is of as many, and its watcher can note the event
pub record IsReady (slots : ℕ) (w : Watched) (e : Event) : Type 0 where
  pub label : Label
  pub labelled : w.label ≡ Some label
  pub within : label.sid < slots
  pub clock : length w.clock ≡ slots
  pub count : w.trace.count < 2 ^ 64 - 1
  pub can : CanBeNoted (length w.frames) e

abbrev pub IsAccess : Event → Type 0
IsAccess (events.Access place addr size read atomic) = Unit {0}
IsAccess _ = ⊥

-- an event of the thread's stack or locks
abbrev pub IsQuiet : Event → Type 0
IsQuiet (events.Enter frame) = Unit {0}
IsQuiet events.Leave = Unit {0}
IsQuiet (events.Lock addr read) = Unit {0}
IsQuiet (events.Unlock addr read) = Unit {0}
IsQuiet _ = ⊥

-- how many threads the event tells to be made
abbrev pub made_by : Event → ℕ
made_by (events.Create child) = 1
made_by _ = 0

-- by the desk the thread lives, and may end where it does
pub record MayHear (w : Watched) (d : DeskContents) (t : ℕ) (e : Event) : Type 0 where
  pub lives : (thread_of d t).lives ≡ true
  pub ends : MayEnd d t w.clock e

-- ---- what is told

abbrev pub IsHeard : (Option Label → Type 0) → Hearing → Type 0
IsHeard P (Heard spent) = P spent
IsHeard P Refused = Unit {0}

-- the event reached nothing but the watcher
pub record HearsAlone (e : Event) (w w' : Watched) (spent : Option Label) : Type 0 where
  pub unspent : spent ≡ None
  pub watcher : (given : Option (List ℕ)) (set : SyncObjects) (desk : DeskContents) → at_rest w' ≡ watcher_after given set desk e (at_rest w)

-- the thread began with that clock
pub record HearsBegin (given : List ℕ) (w w' : Watched) (spent : Option Label) : Type 0 where
  pub unspent : spent ≡ None
  pub watcher : (set : SyncObjects) (desk : DeskContents) → at_rest w' ≡ watcher_after (Some given) set desk events.Begin (at_rest w)

-- the access was checked, and then noted
pub record HearsAccess (file : List ℕ) (e : Event) (place : ℕ) (w w' : Watched) (before after : List Check) (waited waiting : List Candidate)
    (old new : Mine) (spent : Option Label) : Type 0 where
  pub checks : Checks file w e place before after waited waiting old new
  pub alone : HearsAlone e w w' spent

-- the event of a channel, at the stripe k, whose objects were the first and are the second
pub record HearsAtStripe (k : ℕ) (e : Event) (w w' : Watched) (old new : SyncObjects) (spent : Option Label) : Type 0 where
  pub keeper : IsAtKeeper stripe k e
  pub watcher : (given : Option (List ℕ)) (desk : DeskContents) → at_rest w' ≡ watcher_after given (roomless old) desk e (at_rest w)
  pub objects : ObjectsAfter w.era w.clock e (roomless old) (roomless new)
  pub spent_is : spent ≡ lost_after e w
  pub slots : new.slots ≡ old.slots

-- the event at the desk, which was the first and is the second
pub record HearsAtDesk (t : ℕ) (e : Event) (w w' : Watched) (old new : DeskContents) (spent : Option Label) : Type 0 where
  pub granted : IsGranted old t e
  pub watcher : (given : Option (List ℕ)) (set : SyncObjects) → at_rest w' ≡ watcher_after given set old e (at_rest w)
  pub desk : new ≡ desk_after old t w.clock e
  pub spent_is : spent ≡ lost_after e w

-- A thread that takes a slot at the desk of the table, or leaves it.
use Rattle.std.specs.Prelude.{◌≡◌, ◌<◌, ◌-◌, ◌^◌, ℕ, true, Bool, List, [], length, slice_index, Option, Some, None}
use Rattle.run_record.specs.declared.entry.Label.{Label}
use Rattle.run_record.specs.declared.limits.Limits.{Limits}
use Rattle.place_turns.specs.Places as machine
use Rattle.place_turns.specs.Turns.{arrived}
use Rattle.slot_desk.specs.Desks.{DeskContents, thread_of, held_of, lives_of}
use Rattle.slot_desk.specs.Steps.{joined_told}
use Rattle.race_core.specs.Watched.{Watched}
use Rattle.hart_steps.specs.declared.hart.Hart.{Hart}
use Rattle.hart_steps.specs.Harts.{absent, local_of}
use Rattle.hart_steps.specs.Desks.{desk_with, desk_value}
use Rattle.shared_table.specs.declared.object.DeskState.{DeskState}
use Rattle.shared_table.specs.Past.{IsDeskOf}
use Rattle.placed_detector.specs.Standing.{Hand, Held}
use Rattle.placed_detector.specs.Slots.{given_at, TakesSlot, LeavesSlot}
use Rattle.hart_turns.specs.declared.slots.ThreadState.{ThreadState}
use Rattle.hart_turns.specs.Hearing.{at_rest}

-- ---- a thread and the desk, as the laws of workers have them

abbrev pub local_in : Option Hart → machine.Local
local_in None = absent
local_in (Some h) = local_of h

-- the thread's state, where that was left for it and it hasn't begun
abbrev pub hand_of : ThreadState → Option (Option (List ℕ)) → Hand
hand_of s given = record { bare = local_in s.hart; watched = at_rest s.watcher; given = given }

-- what the desk keeps of its place
abbrev pub held_desk : Limits → DeskState → Held
held_desk limits d = record {
  bare = desk_value d.machine (lives_of d.desk);
  sync = record { slots = limits.slots; objects = []; spare = 0 };
  desk = d.desk;
}

-- ---- a slot that is taken

-- the thread has no slot, its clock is of so many, and it was made and lives
pub record MayTake (slots : ℕ) (w : Watched) (d : DeskState) (t : ℕ) : Type 0 where
  pub unlabelled : w.label ≡ None
  pub clock : length w.clock ≡ slots
  pub count : w.trace.count < 2 ^ 64 - 1
  pub made : t < length d.machine.made
  pub lives : (thread_of d.desk t).lives ≡ true
  pub unheld : held_of d.desk t ≡ None

-- a thread that hasn't arrived takes itself as it was made
abbrev pub Arrives : DeskState → ℕ → Option Hart → Option Hart → Type 0
Arrives d t old new = (lives : List Bool) → local_in new ≡ arrived t (local_in old) (desk_with d.machine lives) (local_in old).thread

-- and the clock takes in what was left for it
abbrev pub IsGivenTo : DeskState → ℕ → Option Hart → List ℕ → List ℕ → Type 0
IsGivenTo d t None before after = after ≡ joined_told before (thread_of d.desk t).told
IsGivenTo d t (Some h) before after = after ≡ before

-- Thread t has taken the slot of the label.
pub record TookAt (limits : Limits) (t : ℕ) (old new : ThreadState) (d d' : DeskState) (before after : List ℕ) (label : Label) : Type 0 where
  pub takes :
      length d.machine.made ≡ d.desk.made →
      TakesSlot limits old.watcher.era t label (hand_of old None) (hand_of new (given_at d.desk t (local_in old.hart).thread None)) (held_desk limits d)
      (held_desk limits d')
  pub given : IsGivenTo d t old.hart before after
  pub machine_is : d'.machine ≡ d.machine
  pub last_is : d'.last ≡ d.last

-- Whatever comes of it, the desk is one for the limits, with as many threads as before, at the machine and at the slots: it can be given back.
pub record KeepsDesk (limits : Limits) (d d' : DeskState) : Type 0 where
  pub desk : IsDeskOf limits d'.desk
  pub made : d'.desk.made ≡ d.desk.made
  pub machine_is : d'.machine ≡ d.machine
  pub last_is : d'.last ≡ d.last

-- no slot is free, and all is as it was
pub record IsUntaken (old new : ThreadState) (d d' : DeskState) : Type 0 where
  pub none_free : d.desk.queue ≡ []
  pub hart : new.hart ≡ old.hart
  pub watcher : at_rest new.watcher ≡ at_rest old.watcher
  pub desk : d' ≡ d

-- ---- a slot that is left

pub record MayLeave (w : Watched) (d : DeskContents) (t : ℕ) (label : Label) : Type 0 where
  pub lives : (thread_of d t).lives ≡ true
  pub lost : w.label ≡ None
  pub since : ℕ
  pub held : held_of d t ≡ Some (label.sid, since)
  pub greatest : slice_index w.clock label.sid ≡ d.greatest

-- Thread t has left the slot of the label.
pub record LeftAt (limits : Limits) (t : ℕ) (label : Label) (w : Watched) (d d' : DeskState) : Type 0 where
  pub leaves :
      (state : ThreadState) (given : Option (Option (List ℕ))) → state.watcher ≡ w →
      LeavesSlot w.era t label (hand_of state given) (held_desk limits d) (held_desk limits d')
  pub machine_is : d'.machine ≡ d.machine
  pub last_is : d'.last ≡ d.last

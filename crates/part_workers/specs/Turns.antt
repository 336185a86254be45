-- What a turn of a worker makes of its thread, of one object and of what it told, as the laws of parts have it.
use Rattle.std.specs.Prelude.{◌≡◌, ◌+◌, ◌∷◌, ◌++◌, max, ℕ, List, [], replicate, Option, Some, None}
use Rattle.run_record.specs.declared.entry.Label.{Label}
use Rattle.run_record.specs.declared.entry.DeskNote.{DeskNote}
use Rattle.run_record.specs.declared.entry.DeskNote.TheVariants.{Attach, Leave}
use Rattle.run_record.specs.declared.limits.Limits.{Limits}
use Rattle.bare_machine.specs.Step.{desk}
use Rattle.slot_desk.specs.Steps.{joined_told}
use Rattle.race_core.specs.Watched.{Watched}
use Rattle.shared_table.specs.declared.object.DeskState.{DeskState}
use Rattle.shared_table.specs.declared.object.Object.{Object}
use Rattle.shared_table.specs.declared.object.Object.TheVariants.{Stripe, Desk}
use Rattle.shared_table.specs.Past.{Log, IsDeskOf, HasThreads}
use Rattle.placed_detector.specs.Slots.{TakesSlot, LeavesSlot}
use Rattle.table_deeds.specs.Objects.{slots_in}
use Rattle.hart_steps.specs.declared.hart.Hart.{Hart}
use Rattle.hart_parts.specs.Parts.{Try, try_items}
use Rattle.part_growth.specs.Growth.{place_in, IsTurn}
use Rattle.hart_turns.specs.declared.slots.ThreadState.{ThreadState}
use Rattle.hart_turns.specs.Slots.{hand_of, held_desk}
use Rattle.part_workers.specs.declared.part.Post.{Post}
use Rattle.part_workers.specs.declared.part.PartSoFar.{PartSoFar}
use Rattle.part_workers.specs.Parts.{note_entry}

-- ---- the desk

-- the object is the desk of a run with these limits
abbrev pub IsDeskIn : Limits → Object → Type 0
IsDeskIn limits (Stripe s) = ⊥
IsDeskIn limits (Desk d) = IsDeskOf limits d.value.desk × HasThreads d.value

-- a clock of so many slots that has nothing
abbrev pub IsEmptyClock : Limits → List ℕ → Type 0
IsEmptyClock limits clock = clock ≡ replicate limits.slots 0

-- ---- what a thread was given

-- What was left for a thread that hasn't begun stands in the clock, as an empty clock took that in.
abbrev pub IsGivenIn : Limits → Option (Option (List ℕ)) → List ℕ → Type 0
IsGivenIn limits given clock = (told : Option (List ℕ)) → given ≡ Some told → clock ≡ joined_told (replicate limits.slots 0) told

-- a thread that arrives is given something, and one that had arrived nothing
abbrev pub IsGivenFirst : Option Hart → Option (Option (List ℕ)) → Type 0
IsGivenFirst None given = (told : Option (List ℕ)) × (given ≡ Some told)
IsGivenFirst (Some h) given = given ≡ None

-- ---- stamps and notes

-- one more entry, of a slot that was taken or left, with the stamp after the greater of the part's last one and that
abbrev pub with_note : Post → DeskNote → ℕ → PartSoFar → PartSoFar
with_note post note stamp p = record p { last = stamp; entries = p.entries ++ note_entry post note stamp ∷ [] }

-- the stamp that a turn draws
abbrev pub stamp_after : PartSoFar → ℕ → ℕ
stamp_after p found = max p.last found + 1

-- ---- a slot that is taken

-- The thread took the slot of the label from the desk d, which it left as d', and the part tells it.
pub record TakesOf (limits : Limits) (post : Post) (old new : ThreadState) (d d' : DeskState) (before after : PartSoFar)
    (clock : List ℕ) : Type 0 where
  pub label : Label
  pub given : Option (Option (List ℕ))
  pub takes : TakesSlot limits old.watcher.era post.tid label (hand_of old None) (hand_of new given) (held_desk limits d) (held_desk limits d')
  pub given_in : IsGivenIn limits given clock
  pub given_first : IsGivenFirst old.hart given
  pub told : after ≡ with_note post (Attach label) (stamp_after before d.last) before
  pub left_there : d'.last ≡ stamp_after before d.last

-- The desk had no free slot, and all is as it was.
pub record FindsNone (old new : ThreadState) (d d' : DeskState) (before after : PartSoFar) : Type 0 where
  pub none_free : d.desk.queue ≡ []
  pub hand : (given : Option (Option (List ℕ))) → hand_of new given ≡ hand_of old given
  pub desk : d' ≡ d
  pub told : after ≡ before

-- the same of objects that are the desk
abbrev pub TakesIn : Limits → Post → ThreadState → ThreadState → Object → Object → PartSoFar → PartSoFar → List ℕ → Type 0
TakesIn limits post old new (Desk d) (Desk e) before after clock = TakesOf limits post old new d.value e.value before after clock
TakesIn limits post old new _ _ before after clock = ⊥

-- the same of an object, which stays the same
pub record FindsNoneIn (limits : Limits) (old new : ThreadState) (x y : Object) (before after : PartSoFar) : Type 0 where
  pub none_free : (slots_in limits x).queue ≡ []
  pub hand : (given : Option (Option (List ℕ))) → hand_of new given ≡ hand_of old given
  pub object : y ≡ x
  pub told : after ≡ before

-- A turn of the desk in which the thread took the slot of the label. The clock has what its creator left for it.
pub record TakesAtDesk (limits : Limits) (post : Post) (old new : ThreadState) (before after : PartSoFar) (clock : List ℕ)
    (log log' : Log) : Type 0 where
  pub label : Label
  pub given : Option (Option (List ℕ))
  pub found : Object
  pub left : Object
  pub number : ℕ
  pub turn : IsTurn desk log log' number [] found left before.last after.last
  pub takes : (file : List ℕ) → TakesSlot limits old.watcher.era post.tid label (hand_of old None) (hand_of new given)
      (place_in file limits desk found) (place_in file limits desk left)
  pub given_in : IsGivenIn limits given clock
  pub given_first : IsGivenFirst old.hart given
  pub told : after ≡ with_note post (Attach label) after.last before

-- A turn of the desk that found no free slot.
pub record TriesAtDesk (limits : Limits) (old new : ThreadState) (before after : PartSoFar) (log log' : Log) : Type 0 where
  pub tried : Try
  pub log_is : log' ≡ log ++ try_items (Some tried)
  pub none_free : (slots_in limits tried.found).queue ≡ []
  pub hand : (given : Option (Option (List ℕ))) → hand_of new given ≡ hand_of old given
  pub told : after ≡ before

-- ---- a slot that is left

-- The thread left the slot of the label at the desk d, which it left as d', and the part tells it.
pub record LeavesOf (limits : Limits) (post : Post) (label : Label) (w : Watched) (d d' : DeskState) (before after : PartSoFar) : Type 0 where
  pub leaves : (state : ThreadState) (given : Option (Option (List ℕ))) → state.watcher ≡ w →
      LeavesSlot w.era post.tid label (hand_of state given) (held_desk limits d) (held_desk limits d')
  pub told : after ≡ with_note post (Leave label) (stamp_after before d.last) before
  pub left_there : d'.last ≡ stamp_after before d.last

abbrev pub LeavesIn : Limits → Post → Label → Watched → Object → Object → PartSoFar → PartSoFar → Type 0
LeavesIn limits post label w (Desk d) (Desk e) before after = LeavesOf limits post label w d.value e.value before after
LeavesIn limits post label w _ _ before after = ⊥

-- A turn of the desk in which the thread left the slot of the label.
pub record LeavesAtDesk (limits : Limits) (post : Post) (label : Label) (w : Watched) (before after : PartSoFar) (log log' : Log) : Type 0 where
  pub found : Object
  pub left : Object
  pub number : ℕ
  pub turn : IsTurn desk log log' number [] found left before.last after.last
  pub leaves : (file : List ℕ) (state : ThreadState) (given : Option (Option (List ℕ))) → state.watcher ≡ w →
      LeavesSlot w.era post.tid label (hand_of state given) (place_in file limits desk found) (place_in file limits desk left)
  pub told : after ≡ with_note post (Leave label) after.last before

-- What calls ask of a watcher and of the desk, and what they tell.
use Rattle.std.specs.Prelude.{◌≡◌, ◌<◌, ◌≤◌, ◌-◌, ◌^◌, ◌+◌, ◌==◌, ℕ, if◌then◌else◌, IsSomeAnd, List, ◌∷◌, length, slice_index, Option, None}
use Rattle.run_record.specs.declared.entry.Label.{Label}
use Rattle.run_record.specs.declared.event.Event.{Event}
use Rattle.run_record.specs.declared.event.Event.TheVariants as events
use Rattle.run_laws.specs.Labels.{raises}
use Rattle.slot_desk.specs.Desks.{DeskContents, slot_of, held_of}
use Rattle.slot_desk.specs.Steps as desks
use Rattle.race_core.specs.Watched.{Watched, with_clock, labelled}
use Rattle.thread_events.specs.Heard.{lost_label}
use Rattle.hart_events.specs.declared.slots.Attaching.{Attaching}
use Rattle.hart_events.specs.declared.slots.Attaching.TheVariants.{Took, NoneFree, Refused}

-- ---- which events

-- it reaches nothing but its thread's own stack, locks and trace
abbrev pub IsAlone : Event → Type 0
IsAlone (events.Enter frame) = Unit {0}
IsAlone events.Leave = Unit {0}
IsAlone (events.Lock addr read) = Unit {0}
IsAlone (events.Unlock addr read) = Unit {0}
IsAlone (events.Access place addr size read atomic) = Unit {0}
IsAlone (events.Put value count) = Unit {0}
IsAlone _ = ⊥

-- it reaches the synchronisation objects of an address
abbrev pub IsOfChannel : Event → Type 0
IsOfChannel (events.Acquire addr part) = Unit {0}
IsOfChannel (events.Release addr part replaces) = Unit {0}
IsOfChannel (events.Destroy addr) = Unit {0}
IsOfChannel (events.Clear addr) = Unit {0}
IsOfChannel _ = ⊥

-- it reaches the desk
abbrev pub IsOfDesk : Event → Type 0
IsOfDesk (events.Create child) = Unit {0}
IsOfDesk events.End = Unit {0}
IsOfDesk (events.Join of) = Unit {0}
IsOfDesk _ = ⊥

-- ---- what calls ask

-- the label of the watcher may rise, and its trace has room for it
pub record MayRaise (w : Watched) : Type 0 where
  pub label : IsSomeAnd w.label (λ (l : Label). l.sid < length w.clock)
  pub spare : 0 < w.trace.spare
  pub count : w.trace.count < 2 ^ 64 - 1

-- who ends holds a slot, in an epoch that its clock has
abbrev pub MayEnd : DeskContents → ℕ → List ℕ → Event → Type 0
MayEnd d t clock events.End = IsSomeAnd (held_of d t) (λ h. (h.1 ≤ slice_index clock h.0) × (slice_index clock h.0 ≤ d.greatest))
MayEnd d t clock e = Unit {0}

-- the slot at the queue's front has an epoch left
abbrev pub FrontIsFree : ℕ → DeskContents → Type 0
FrontIsFree greatest d = (sid : ℕ) (rest : List ℕ) → d.queue ≡ sid ∷ rest → (sid < 255) × ((slot_of d sid).last + 1 ≤ greatest)

-- ---- what calls tell

-- the label that the event spends
abbrev pub lost_after : Event → Watched → Option Label
lost_after e w = if raises e == 1 then lost_label w else None

-- Thread t has taken the slot at the queue's front, one epoch after the slot's last, and has its label.
pub record TookSlot (old : DeskContents) (w : Watched) (t : ℕ) (new : DeskContents) (w' : Watched) (label : Label) : Type 0 where
  pub rest : List ℕ
  pub front : old.queue ≡ label.sid ∷ rest
  pub epoch : label.epoch ≡ (slot_of old label.sid).last + 1
  pub era : label.era ≡ w.era
  pub few_epochs : label.epoch ≤ w.greatest
  pub desk : new ≡ desks.after_attach old t
  pub watcher : w' ≡ labelled (with_clock w (desks.clock_after_attach old w.clock)) label

abbrev pub IfTook : Attaching → (Label → Type 0) → Type 0
IfTook (Took label) P = P label
IfTook _ P = Unit {0}

abbrev pub IfNoneFree : Attaching → Type 0 → Type 0
IfNoneFree NoneFree P = P
IfNoneFree _ P = Unit {0}

abbrev pub IfRefused : Attaching → Type 0 → Type 0
IfRefused Refused P = P
IfRefused _ P = Unit {0}

-- Which notes may stand in a history.
use Rattle.std.specs.Prelude.{◌≡◌, ℕ, ◌+◌, ◌<◌, Bool, true, Some, None, List, ◌∷◌}
use Rattle.run_record.specs.declared.event.Event.{Event}
use Rattle.run_record.specs.declared.entry.DeskNote.{DeskNote}
use Rattle.run_record.specs.declared.entry.DeskNote.TheVariants.{Attach, Leave}
use Rattle.run_record.specs.declared.entry.Label.{Label}
use Rattle.run_record.specs.declared.limits.Limits.{Limits}
use Rattle.run_laws.specs.Moments.{Item, Does, Notes, Moment, moment_at, items}
use Rattle.run_laws.specs.Labels.{labels, label_of, queue, raises}

-- each attachment is of a thread without a slot, and takes the queue's front
abbrev pub TakesFront : ℕ → ℕ → (ℕ → Item) → Type 0
TakesFront g slots h = (n t : ℕ) (l : Label) → h n ≡ Notes t (Attach l) → ((labels g h n).slot_of t ≡ None) × ((rest : List ℕ) × (queue g slots h n ≡ l.sid ∷ rest))

-- the thread's next entry after position n begins at m, with that note, in the same round
pub record IsNextEntry (h : List Moment) (n t m : ℕ) (note : DeskNote) : Type 0 where
  pub later : n < m
  pub begins : items h m ≡ Notes t note
  pub next : (k : ℕ) (other : DeskNote) → n < k → k < m → items h k ≡ Notes t other → ⊥
  pub same_round : (moment_at h m).round ≡ (moment_at h n).round

-- An Attach note stands rightly: the thread has no label, and takes the queue's front in the present era, one
-- epoch after the slot's last; and its next entry has an instruction that needs a slot.
pub record IsRightAttach (limits : Limits) (needs_slot : ℕ → Bool) (h : List Moment) (n t : ℕ) (l : Label) : Type 0 where
  pub unlabelled : (labels limits.epochs (items h) n).slot_of t ≡ None
  pub rest : List ℕ
  pub front : queue limits.epochs limits.slots (items h) n ≡ l.sid ∷ rest
  pub new_epoch : l.epoch ≡ (labels limits.epochs (items h) n).epoch l.sid + 1
  pub present_era : l.era ≡ (labels limits.epochs (items h) n).era
  pub next : ℕ
  pub note : DeskNote
  pub next_entry : IsNextEntry h n t next note
  pub needed : needs_slot (moment_at h next).entry ≡ true

-- the event at n is a Release or Create at the greatest epoch, so that the thread's slot is spent
pub record Spends (limits : Limits) (h : List Moment) (n t : ℕ) (l : Label) : Type 0 where
  pub event : Event
  pub made : items h n ≡ Does t event
  pub raising : raises event ≡ 1
  pub label : label_of limits.epochs (items h) n t ≡ Some l
  pub greatest : l.epoch ≡ limits.epochs

-- Which notes stand: Attach notes stand rightly; and Leave notes stand exactly where the thread's entry
-- before spent its slot, and tell the label that it had.
pub record AreNotes (limits : Limits) (needs_slot : ℕ → Bool) (h : List Moment) : Type 0 where
  pub attached : (n t : ℕ) (l : Label) → items h n ≡ Notes t (Attach l) → IsRightAttach limits needs_slot h n t l
  pub left : (n t : ℕ) (l : Label) → Spends limits h n t l → (m : ℕ) × IsNextEntry h n t m (Leave l)
  pub left_only :
      (m t : ℕ) (l : Label) → items h m ≡ Notes t (Leave l) →
      (n : ℕ) × Spends limits h n t l × IsNextEntry h n t m (Leave l)

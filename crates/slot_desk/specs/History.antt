-- What a desk has to do with a history: with its labels, its queue and its clocks at one moment.
use Rattle.std.specs.Prelude.{◌≡◌, ◌⊎◌, ℕ, ◌<◌, ◌≤◌, ◌==◌, true, false, if◌then◌else◌, ◌++◌, ◌∷◌, [], Option, Some, None, List, length, count_by, slice_index, slice_index_or}
use Rattle.run_record.specs.declared.event.Event.{Event}
use Rattle.run_laws.specs.Moments.{Item, Does}
use Rattle.run_laws.specs.Labels.{Labels, labels, queue}
use Rattle.run_laws.specs.Clocks.{Clocks, Given, Ended, Of, Left, clocks}
use Rattle.slot_desk.specs.declared.slot.Attachment.{Attachment}
use Rattle.slot_desk.specs.Desks.{SlotContents, ThreadContents, DeskContents, is_free, no_slot, no_thread, owner_at}

-- the clock is what is known of each of n slots
abbrev pub Tells : ℕ → List ℕ → (ℕ → ℕ) → Type 0
Tells n clock known = (r : ℕ) → r < n → known r ≡ slice_index clock r

abbrev pub slot_at : List SlotContents → ℕ → SlotContents
slot_at slots sid = slice_index_or slots sid no_slot

abbrev pub thread_at : List ThreadContents → ℕ → ThreadContents
thread_at threads tid = slice_index_or threads tid no_thread

-- what was told of the slot's epoch
abbrev pub epoch_told : Option (List ℕ) → ℕ → ℕ
epoch_told None r = 0
epoch_told (Some clock) r = slice_index clock r

-- The owner of the slot has its label. Or its label was lost at the greatest epoch g, and it is still to leave the slot.
abbrev pub HasLabel : ℕ → Labels → ℕ → ℕ → Type 0
HasLabel g l tid sid = (l.slot_of tid ≡ Some sid) ⊎ ((l.slot_of tid ≡ None) × (g ≤ l.epoch sid))

-- Who holds a label owns its slot at the desk, and each owner has its label or is still to leave. The slots in the queue are the free ones, with their last epochs.
pub record AreSlots (g n : ℕ) (l : Labels) (queue : List ℕ) (slots : List SlotContents) : Type 0 where
  pub all_slots : length slots ≡ n
  pub queued : (sid : ℕ) → count_by (λ x. x == sid) queue ≡ (if is_free (slot_at slots sid) then 1 else 0)
  pub holds : (tid sid : ℕ) → l.slot_of tid ≡ Some sid → (a : Attachment) × ((slot_at slots sid).owner ≡ Some a) × (a.tid ≡ tid)
  pub owned : (sid : ℕ) (a : Attachment) → (slot_at slots sid).owner ≡ Some a → (l.free sid ≡ false) × (a.epoch ≤ l.epoch sid) × HasLabel g l a.tid sid
  pub one_slot : (r s : ℕ) (a b : Attachment) → (slot_at slots r).owner ≡ Some a → (slot_at slots s).owner ≡ Some b → a.tid ≡ b.tid → r ≡ s
  pub free : (sid : ℕ) → is_free (slot_at slots sid) ≡ true → (l.free sid ≡ true) × (l.epoch sid ≡ (slot_at slots sid).last)

-- each slot has the clock that its last owner left
pub record AreLeft (n : ℕ) (k : Clocks) (slots : List SlotContents) : Type 0 where
  pub long : (sid : ℕ) → sid < n → length (slot_at slots sid).left ≡ n
  pub known : (sid : ℕ) → sid < n → Tells n (slot_at slots sid).left (k.spot (Left sid))

-- Each thread that lives has the clock that its creator gave it, and each ended one the clock that it ended with, where that was in this era.
pub record AreTold (n : ℕ) (k : Clocks) (made : ℕ) (threads : List ThreadContents) : Type 0 where
  pub all_threads : length threads ≡ 1024
  pub few_made : made ≤ 1024
  pub long : (tid : ℕ) (clock : List ℕ) → (thread_at threads tid).told ≡ Some clock → length clock ≡ n
  pub given : (tid r : ℕ) → r < n → (thread_at threads tid).lives ≡ true → k.spot (Of (Given tid)) r ≡ epoch_told (thread_at threads tid).told r
  pub ended : (tid r : ℕ) → r < n → (thread_at threads tid).lives ≡ false → k.spot (Of (Ended tid)) r ≡ epoch_told (thread_at threads tid).told r
  pub living : (tid r : ℕ) → r < n → (thread_at threads tid).lives ≡ true → k.spot (Of (Ended tid)) r ≡ 0
  pub unmade : (tid : ℕ) → made ≤ tid → (thread_at threads tid).lives ≡ false
  pub ungiven : (tid r : ℕ) → r < n → made ≤ tid → k.spot (Of (Given tid)) r ≡ 0
  pub untold : (tid : ℕ) → made ≤ tid → (thread_at threads tid).told ≡ None

-- the desk is that of a history with these labels, clocks and queue, where g is the greatest epoch
pub record IsDesk (g n : ℕ) (l : Labels) (k : Clocks) (queue : List ℕ) (d : DeskContents) : Type 0 where
  pub greatest : d.greatest ≡ g
  pub same_queue : d.queue ≡ queue
  pub slots : AreSlots g n l d.queue d.slots
  pub left : AreLeft n k d.slots
  pub told : AreTold n k d.made d.threads

-- The journal of each slot ends with the slot's owner, and names the thread of each event that was made under the slot in this era before position i.
pub record AreJournals (g : ℕ) (h : ℕ → Item) (i : ℕ) (slots : List SlotContents) : Type 0 where
  pub last : (sid : ℕ) (a : Attachment) → (slot_at slots sid).owner ≡ Some a → (earlier : List Attachment) × ((slot_at slots sid).journal ≡ earlier ++ a ∷ [])
  pub named : (j tid sid : ℕ) (event : Event) → j < i → h j ≡ Does tid event → (labels g h j).slot_of tid ≡ Some sid → (labels g h j).era ≡ (labels g h i).era → owner_at (slot_at slots sid).journal ((labels g h j).epoch sid) ≡ Some tid

-- the desk is that of the history before position i, where g is the greatest epoch and n the number of slots
pub record IsDeskAt (g n : ℕ) (h : ℕ → Item) (i : ℕ) (d : DeskContents) : Type 0 where
  pub desk : IsDesk g n (labels g h i) (clocks g h i) (queue g n h i) d
  pub journals : AreJournals g h i d.slots

-- What holds of a desk's memory.
use Rattle.std.specs.Prelude.{◌≡◌, ◌<◌, ◌≤◌, ◌+◌, ◌==◌, ℕ, true, false, if◌then◌else◌, Some, List, map, length, All, count_by, sum_by, slice_index_or}
use Rattle.slot_desk.specs.declared.slot.Attachment.{Attachment}
use Rattle.slot_desk.specs.declared.thread.ThreadState.{ThreadState}
use Rattle.slot_desk.specs.Desks.{SlotContents, DeskContents, is_free, slot_of, thread_of, live_of}
use Rattle.slot_desk.specs.Threads.{shown, blank_thread}

-- a thread's clock is of so many slots and no later era, and its slot is one of them
pub record IsKeptThread (slots era : ℕ) (t : ThreadState) : Type 0 where
  pub told : length t.told ≡ slots
  pub told_in : t.told_in ≤ era
  pub slot : t.slot < slots

-- what a desk is seen as
abbrev pub contents : ℕ → ℕ → ℕ → ℕ → List ThreadState → List SlotContents → List ℕ → DeskContents
contents harts greatest made era threads slots queue = record { harts = harts; greatest = greatest; made = made; threads = map (shown era) threads; slots = slots; queue = queue }

-- the slot that the thread took last
abbrev pub slot_taken : List ThreadState → ℕ → ℕ
slot_taken threads tid = (slice_index_or threads tid (blank_thread 0)).slot

-- how many attachments the slot has had
abbrev pub attachments : SlotContents → ℕ
attachments s = length s.journal

-- Each slot stands in the queue exactly where it is free, and there once. A slot's owner knows it. Each attachment of the era goes on, or spent its slot, or was ended by its thread's end, so that there is room for all.
pub record IsKept (live era : ℕ) (threads : List ThreadState) (d : DeskContents) : Type 0 where
  pub some_slots : 1 ≤ length d.slots
  pub few_slots : length d.slots ≤ 255
  pub all_threads : length threads ≡ 1024
  pub few_made : d.made ≤ 1024
  pub told : All (IsKeptThread (length d.slots) era) threads
  pub unmade : (tid : ℕ) → d.made ≤ tid → (thread_of d tid).lives ≡ false
  pub counted : live ≡ live_of d
  pub few_live : live ≤ d.harts
  pub live_made : live ≤ d.made
  pub some_epochs : 1 ≤ d.greatest
  pub few_epochs : d.greatest ≤ 16383
  pub left : All (λ (s : SlotContents). length s.left ≡ length d.slots) d.slots
  pub epochs : (sid : ℕ) → is_free (slot_of d sid) ≡ true → (slot_of d sid).last < d.greatest
  pub owners : (sid : ℕ) (a : Attachment) → (slot_of d sid).owner ≡ Some a → (a.tid < 1024) × (slot_taken threads a.tid ≡ sid)
  pub queued : (sid : ℕ) → count_by (λ x. x == sid) d.queue ≡ (if is_free (slot_of d sid) then 1 else 0)
  pub queue_long : length d.queue ≡ count_by is_free d.slots
  pub room : sum_by attachments d.slots + length d.queue + live ≤ length d.slots + d.made

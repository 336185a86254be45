-- What a desk keeps.
use Rattle.std.specs.Prelude.{◌≡◌, ℕ, ◌+◌, ◌==◌, nat_le, Bool, true, false, ◌&&◌, not, if◌then◌else◌, Option, Some, None, is_none, List, [], ◌∷◌, replicate, map, take, count_by, slice_index_or}
use Rattle.slot_desk.specs.declared.slot.Attachment.{Attachment}

-- A slot in this era: who owns it and since which epoch, whether its epochs are spent, the last epoch of its last owner and the clock that this one left, and all attachments, the first one first.
pub record SlotContents : Type 0 where
  pub owner : Option Attachment
  pub spent : Bool
  pub last : ℕ
  pub left : List ℕ
  pub journal : List Attachment

-- A thread: whether it lives, and the clock that was told in this era. While it lives that is its creator's at the creation, and then its own at its end.
pub record ThreadContents : Type 0 where
  pub lives : Bool
  pub told : Option (List ℕ)

-- A desk: how many threads may live at once, the greatest epoch, how many threads were made, all that can be made, the slots, and the queue of free ones.
pub record DeskContents : Type 0 where
  pub harts : ℕ
  pub greatest : ℕ
  pub made : ℕ
  pub threads : List ThreadContents
  pub slots : List SlotContents
  pub queue : List ℕ

-- nobody has had it in this era
abbrev pub fresh_slot : ℕ → SlotContents
fresh_slot slots = record { owner = None; spent = false; last = 0; left = replicate slots 0; journal = [] }

abbrev pub is_free : SlotContents → Bool
is_free s = is_none s.owner && not s.spent

-- what stands for a slot where there is none
abbrev pub no_slot : SlotContents
no_slot = record { owner = None; spent = true; last = 0; left = []; journal = [] }

abbrev pub slot_of : DeskContents → ℕ → SlotContents
slot_of d sid = slice_index_or d.slots sid no_slot

-- a thread that was not made
abbrev pub no_thread : ThreadContents
no_thread = record { lives = false; told = None }

abbrev pub thread_of : DeskContents → ℕ → ThreadContents
thread_of d tid = slice_index_or d.threads tid no_thread

-- how many threads live
abbrev pub live_of : DeskContents → ℕ
live_of d = count_by (λ (t : ThreadContents). t.lives) d.threads

-- which of the threads that were made live
abbrev pub lives_of : DeskContents → List Bool
lives_of d = take d.made (map (λ (t : ThreadContents). t.lives) d.threads)

-- the slot and the epoch of its attachment where the thread owns it, and else what comes last
abbrev pub held_or : ℕ → ℕ → Option Attachment → Option (ℕ × ℕ) → Option (ℕ × ℕ)
held_or sid tid None others = others
held_or sid tid (Some a) others = if a.tid == tid then Some (sid, a.epoch) else others

abbrev pub held_from : ℕ → ℕ → List SlotContents → Option (ℕ × ℕ)
held_from sid tid [] = None
held_from sid tid (s ∷ slots) = held_or sid tid s.owner (held_from (sid + 1) tid slots)

-- the slot that the thread holds, and the epoch of its attachment
abbrev pub held_of : DeskContents → ℕ → Option (ℕ × ℕ)
held_of d tid = held_from 0 tid d.slots

-- the last of two, where there is one
abbrev pub later_of : Option ℕ → Option ℕ → Option ℕ
later_of first None = first
later_of first (Some later) = Some later

-- the thread of the last attachment whose first epoch is at most that
abbrev pub owner_at : List Attachment → ℕ → Option ℕ
owner_at [] epoch = None
owner_at (a ∷ journal) epoch = later_of (if nat_le a.epoch epoch then Some a.tid else None) (owner_at journal epoch)

-- each slot is owned or spent
abbrev pub NoneIsFree : DeskContents → Type 0
NoneIsFree d = (sid : ℕ) → is_free (slot_of d sid) ≡ false

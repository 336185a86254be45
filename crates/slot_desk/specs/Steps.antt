-- What the calls of a desk answer, and what the desk and the thread's clock are after them.
use Rattle.std.specs.Prelude.{◌≤◌, ℕ, ◌+◌, ◌==◌, nat_lt, Bool, true, false, ◌||◌, if◌then◌else◌, Option, Some, None, List, [], ◌∷◌, ◌++◌, length, replicate, map, slice_index, slice_set}
use Rattle.std.specs.Option.{option_map_or}
use Rattle.vector_clock.specs.Clocks.{joined}
use Rattle.run_laws.specs.Numbers.{up_from}
use Rattle.run_record.specs.declared.limits.Limits.{Limits}
use Rattle.slot_desk.specs.declared.slot.Attachment.{Attachment}
use Rattle.slot_desk.specs.declared.answers.Attached.{Attached}
use Rattle.slot_desk.specs.declared.answers.Attached.TheVariants.{Slot, None as NoSlot}
use Rattle.slot_desk.specs.declared.answers.Created.{Created}
use Rattle.slot_desk.specs.declared.answers.Created.TheVariants.{Thread, Full}
use Rattle.slot_desk.specs.declared.answers.Joined.{Joined}
use Rattle.slot_desk.specs.declared.answers.Joined.TheVariants.{Done, Living, NoSuch}
use Rattle.slot_desk.specs.Desks.{SlotContents, ThreadContents, DeskContents, fresh_slot, no_thread, slot_of, thread_of, live_of, held_of}

-- the limits that a desk reads are in their ranges
pub record AreDeskLimits (limits : Limits) : Type 0 where
  pub some_harts : 1 ≤ limits.harts
  pub few_harts : limits.harts ≤ 64
  pub harts_have_slots : limits.harts ≤ limits.slots
  pub few_slots : limits.slots ≤ 255
  pub some_epochs : 2 ≤ limits.epochs
  pub few_epochs : limits.epochs ≤ 16383

-- the main thread lives, and each slot is free
abbrev pub new_desk : Limits → DeskContents
new_desk limits =
    record {
      harts = limits.harts;
      greatest = limits.epochs;
      made = 1;
      threads = record { lives = true; told = None } ∷ replicate 1023 no_thread;
      slots = replicate limits.slots (fresh_slot limits.slots);
      queue = up_from 0 limits.slots;
    }

-- the thread takes the slot, one epoch after its last
abbrev pub attachment : ℕ → SlotContents → Attachment
attachment tid s = record { epoch = s.last + 1; tid = tid }

abbrev pub attached_slot : ℕ → SlotContents → SlotContents
attached_slot tid s = record s { owner = Some (attachment tid s); journal = s.journal ++ attachment tid s ∷ [] }

-- the queue's front, and its new epoch
abbrev pub attached_from : DeskContents → List ℕ → Attached
attached_from d [] = NoSlot
attached_from d (sid ∷ rest) = Slot sid ((slot_of d sid).last + 1)

abbrev pub attached : DeskContents → Attached
attached d = attached_from d d.queue

abbrev pub after_attach_from : DeskContents → ℕ → List ℕ → DeskContents
after_attach_from d tid [] = d
after_attach_from d tid (sid ∷ rest) = record d { slots = slice_set d.slots sid (attached_slot tid (slot_of d sid)); queue = rest }

abbrev pub after_attach : DeskContents → ℕ → DeskContents
after_attach d tid = after_attach_from d tid d.queue

-- the clock takes in what the slot's last owner left, and has the new epoch
abbrev pub clock_after_attach_from : DeskContents → List ℕ → List ℕ → List ℕ
clock_after_attach_from d clock [] = clock
clock_after_attach_from d clock (sid ∷ rest) = slice_set (joined clock (slot_of d sid).left) sid ((slot_of d sid).last + 1)

abbrev pub clock_after_attach : DeskContents → List ℕ → List ℕ
clock_after_attach d clock = clock_after_attach_from d clock d.queue

-- the slot's owner leaves it, and it is spent
abbrev pub spent_slot : SlotContents → SlotContents
spent_slot s = record s { owner = None; spent = true }

abbrev pub after_detach : DeskContents → ℕ → DeskContents
after_detach d tid = option_map_or (λ (h : ℕ × ℕ). record d { slots = slice_set d.slots h.0 (spent_slot (slot_of d h.0)) }) (held_of d tid) d

-- the clock takes in another, where there is one
abbrev pub joined_told : List ℕ → Option (List ℕ) → List ℕ
joined_told clock told = option_map_or (λ (other : List ℕ). joined clock other) told clock

-- a new thread, if fewer than `harts` live and fewer than 1,024 were made
abbrev pub is_full : DeskContents → Bool
is_full d = (live_of d == d.harts) || (d.made == 1024)

abbrev pub created : DeskContents → Created
created d = if is_full d then Full else Thread d.made

abbrev pub after_create : DeskContents → List ℕ → DeskContents
after_create d clock = if is_full d then d else record d { made = d.made + 1; threads = slice_set d.threads d.made (record { lives = true; told = Some clock }) }

-- the slot's owner ends in that epoch and leaves its clock
abbrev pub ended_slot : ℕ → Bool → List ℕ → SlotContents → SlotContents
ended_slot epoch is_last clock s = record s { owner = None; spent = is_last; last = epoch; left = clock }

-- the thread ends in that epoch of the slot, which joins the queue's end, unless the epoch is the greatest
abbrev pub ended : DeskContents → ℕ → ℕ → ℕ → List ℕ → DeskContents
ended d tid sid epoch clock =
    record d {
      threads = slice_set d.threads tid (record { lives = false; told = Some clock });
      slots = slice_set d.slots sid (ended_slot epoch (epoch == d.greatest) clock (slot_of d sid));
      queue = (if epoch == d.greatest then d.queue else d.queue ++ sid ∷ []);
    }

abbrev pub after_end : DeskContents → ℕ → List ℕ → DeskContents
after_end d tid clock = option_map_or (λ (h : ℕ × ℕ). ended d tid h.0 (slice_index clock h.0) clock) (held_of d tid) d

-- whether the thread of that number has ended
abbrev pub join_answer : DeskContents → ℕ → Joined
join_answer d of = if nat_lt of d.made then (if (thread_of d of).lives then Living else Done) else NoSuch

-- the clock takes in the one that the thread ended with in this era
abbrev pub clock_after_join : DeskContents → ℕ → List ℕ → List ℕ
clock_after_join d of clock = if nat_lt of d.made then (if (thread_of d of).lives then clock else joined_told clock (thread_of d of).told) else clock

-- a thread's clocks are forgotten
abbrev pub forgotten : ThreadContents → ThreadContents
forgotten t = record t { told = None }

-- an era begins: clocks and journals are empty, nobody holds a slot, and each is free
abbrev pub after_reset : DeskContents → DeskContents
after_reset d = record d { threads = map forgotten d.threads; slots = replicate (length d.slots) (fresh_slot (length d.slots)); queue = up_from 0 (length d.slots) }

-- What an instruction makes of the memory that it touches.
use Rattle.std.specs.Prelude.{ℕ, ◌%◌, ◌/◌, if◌then◌else◌, Bool, List, slice_set, Option, Some, None}
use Rattle.rv_decode.specs.declared.instr.Op.{Op}
use Rattle.rv_exec.specs.declared.exec.Effect.{Effect}
use Rattle.rv_exec.specs.declared.exec.Effect.TheVariants.{Local, Load, Store, Amo, Reserve, Conditional, Call, Fault}
use Rattle.rv_exec.specs.Meaning.{stored_by}
use Rattle.guest_memory.specs.declared.reservations.Reservation.{Reservation}
use Rattle.guest_memory.specs.Fields.{field, with_field}
use Rattle.guest_memory.specs.Reservations.{without_granule, without_thread, with_reservation}
use Rattle.bare_machine.specs.declared.touch.Touched.{Touched}

-- the words of the granules by number, each of eight bytes, and which thread has reserved which granule
pub record GuestMemory : Type 0 where
  pub words : List ℕ
  pub reservations : List Reservation

-- objects 0 to 63 are the stripes of memory, by granule address
abbrev pub stripe : ℕ → ℕ
stripe addr = addr / 8 % 64

-- the place of an address in its granule
abbrev pub offset : ℕ → ℕ
offset addr = addr % 8

abbrev pub reads : ℕ → Touched
reads value = record { value = value; written = None }

abbrev pub writes : ℕ → ℕ → Touched
writes value word = record { value = value; written = Some word }

-- The value that an instruction gets of a granule's word, and the new word, where it writes one. A conditional store writes where the thread's reservation stands, and gets 0 then and else 1.
abbrev pub touched : Op → Effect → ℕ → Bool → Touched
touched op (Load a n) word stands = reads (field word (offset a) n)
touched op (Store a n v) word stands = writes 0 (with_field word (offset a) n v)
touched op (Amo a n arg) word stands = writes (field word (offset a) n) (with_field word (offset a) n (stored_by op (field word (offset a) n) arg))
touched op (Reserve a n) word stands = reads (field word (offset a) n)
touched op (Conditional a n v) word stands = if stands then writes 0 (with_field word (offset a) n v) else reads 1
touched op Local word stands = reads 0
touched op Call word stands = reads 0
touched op (Fault fault) word stands = reads 0

-- LR reserves the granule; SC ends the thread's own reservation, whether it writes or not
abbrev pub reserved : GuestMemory → ℕ → ℕ → Effect → GuestMemory
reserved m tid g (Reserve a n) = record m { reservations = with_reservation m.reservations tid g }
reserved m tid g (Conditional a n v) = record m { reservations = without_thread m.reservations tid }
reserved m tid g (Load a n) = m
reserved m tid g (Store a n v) = m
reserved m tid g (Amo a n arg) = m
reserved m tid g Local = m
reserved m tid g Call = m
reserved m tid g (Fault fault) = m

-- a write to granule g ends all reservations of the granule
abbrev pub written : GuestMemory → ℕ → Option ℕ → GuestMemory
written m g None = m
written m g (Some word) = record { words = slice_set m.words g word; reservations = without_granule m.reservations g }

-- What each thread keeps for itself, and what each place has.
use Rattle.std.specs.Prelude.{◌≡◌, ℕ, ◌==◌, Bool, false, List, [], Option, Some, None}
use Rattle.run_record.specs.declared.finished.GuestEnd.{GuestEnd}
use Rattle.elf_image.specs.File.{granule_address}
use Rattle.guest_memory.specs.declared.reservations.Reservation.{Reservation}
use Rattle.bare_machine.specs.declared.thread.Thread.{Thread}
use Rattle.bare_machine.specs.Memory as memory

-- A thread's own state: the thread, once it has arrived, and the granule that it reserved last, where no conditional store
-- has followed.
pub record Local : Type 0 where
  pub thread : Option Thread
  pub reserved : Option ℕ

-- A stripe of memory: the words of its granules by number, and which threads have reserved which of them since the last
-- write there. Such a reservation stands only while it is the thread's last one.
pub record Stripe : Type 0 where
  pub words : ℕ → ℕ
  pub reservations : List Reservation

-- The desk: the threads by number as they were made, whether each lives, the bytes that were put, and the first exit or fault.
pub record Desk : Type 0 where
  pub made : List Thread
  pub lives : List Bool
  pub output : List ℕ
  pub ended : Option GuestEnd

-- the value of a place
pub data Value : Type 0 where
  of_stripe : Stripe → Value
  of_desk : Desk → Value
  of_nobody : Value

-- the stripe that a value is, and an empty one of another value; and the same of the desk
abbrev pub stripe_in : Value → Stripe
stripe_in (of_stripe s) = s
stripe_in _ = record { words = λ n. 0; reservations = [] }

abbrev pub desk_in : Value → Desk
desk_in (of_desk d) = d
desk_in _ = record { made = []; lives = []; output = []; ended = None }

-- The places are numbered as the objects are: 64 stripes of memory, then the desk. Those after them have nothing. An
-- instruction that uses an object is at that place; one that uses none may be at any, which it leaves as it is.
abbrev pub IsAt : ℕ → Option ℕ → Type 0
IsAt k None = Unit {0}
IsAt k (Some object) = k ≡ object

-- the stripe of a granule
abbrev pub stripe_at : List ℕ → ℕ → ℕ
stripe_at file n = memory.stripe (granule_address file n)

-- the last granule that the thread reserved is this one
abbrev pub reserves : Option ℕ → ℕ → Bool
reserves None n = false
reserves (Some g) n = g == n

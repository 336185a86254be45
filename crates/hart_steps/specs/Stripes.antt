-- A stripe of memory as a list of words, and what is left there.
use Rattle.std.specs.Prelude.{◌≡◌, ℕ, ◌<◌, ◌==◌, ◌&&◌, nat_lt, true, if◌then◌else◌, List, [], ◌++◌, length, slice_index, slice_set, Option, Some, None, is_some, option_map}
use Rattle.run_record.specs.declared.event.Event.{Event}
use Rattle.rv_exec.specs.declared.exec.Effect.{Effect}
use Rattle.rv_exec.specs.declared.exec.Effect.TheVariants.{Reserve, Conditional}
use Rattle.rv_exec.specs.Meaning.{finished_by}
use Rattle.elf_image.specs.File.{granules_of, initial_word}
use Rattle.guest_memory.specs.declared.reservations.Reservation.{Reservation}
use Rattle.guest_memory.specs.Fields.{field, with_field}
use Rattle.guest_memory.specs.Reservations.{stands, without_granule, without_thread, with_reservation}
use Rattle.entry_calls.specs.Effects.{events_by, word_by, answer_by}
use Rattle.bare_machine.specs.declared.thread.Thread.{Thread}
use Rattle.bare_machine.specs.declared.touch.Touched.{Touched}
use Rattle.bare_machine.specs.Memory.{offset, touched}
use Rattle.bare_machine.specs.Step.{first_events, answered, outcome, with_registers}
use Rattle.shared_table.specs.Layouts.{place_in, size_in}
use Rattle.place_turns.specs.Places.{Value, of_stripe, stripe_at, reserves}
use Rattle.place_turns.specs.Turns.{reserved_after}
use Rattle.bare_machine.specs.declared.request.Touch.{Touch}
use Rattle.bare_machine.specs.declared.request.Operation.{Operation}
use Rattle.hart_steps.specs.declared.hart.Hart.{Hart}

-- The words by granule, of which stripe k keeps its own in a list, by rising granule. Of the granules of other stripes it has
-- the words that the file has.
abbrev pub words_of : List ℕ → ℕ → List ℕ → ℕ → ℕ
words_of file k words n = if (stripe_at file n == k) && nat_lt n (granules_of file) then slice_index words (place_in file n) else initial_word file n

-- stripe k with these words and reservations
abbrev pub stripe_value : List ℕ → ℕ → List ℕ → List Reservation → Value
stripe_value file k words reservations = of_stripe (record { words = words_of file k words; reservations = reservations })

-- the words are as many as the granule's stripe has granules, and the granule's is the one of this index
pub record IsIndexOf (file : List ℕ) (n : ℕ) (words : List ℕ) (index : ℕ) : Type 0 where
  pub size : length words ≡ size_in file (stripe_at file n)
  pub place : index ≡ place_in file n

-- ---- a stripe as it begins

-- the words that the file has, for each granule of the stripe
pub record AreFirst (file : List ℕ) (k : ℕ) (words : List ℕ) : Type 0 where
  pub each : (n : ℕ) → n < granules_of file → stripe_at file n ≡ k → slice_index words (place_in file n) ≡ initial_word file n

-- ---- what is left, by the stripe's list of words

abbrev pub words_written : List ℕ → ℕ → Option ℕ → List ℕ
words_written words index None = words
words_written words index (Some word) = slice_set words index word

abbrev pub reservations_written : List Reservation → ℕ → Option ℕ → List Reservation
reservations_written reservations n None = reservations
reservations_written reservations n (Some word) = without_granule reservations n

-- LR reserves the granule; SC ends the thread's own reservation, whether it writes or not
abbrev pub settled : List Reservation → ℕ → ℕ → Effect → List Reservation
settled reservations t n (Reserve a size) = with_reservation reservations t n
settled reservations t n (Conditional a size v) = without_thread reservations t
settled reservations t n _ = reservations

-- the thread's own state, the words, the reservations and the events
pub record Left : Type 0 where
  pub hart : Hart
  pub words : List ℕ
  pub reservations : List Reservation
  pub events : List Event

abbrev pub touch_left : ℕ → Hart → List ℕ → List Reservation → ℕ → Touch → Touched → Left
touch_left t h words reservations index r made =
    let after : Thread = with_registers h.thread (finished_by r.instr.op r.instr h.thread.regs made.value) in
    record {
      hart = record { thread = record after { began = true }; reserved = reserved_after h.reserved r.granule r.effect };
      words = words_written words index made.written;
      reservations = reservations_written (settled reservations t r.granule r.effect) r.granule made.written;
      events = first_events after ++ [];
    }

-- what the instruction makes of the word that it finds
abbrev pub touched_by : ℕ → Hart → List Reservation → Touch → ℕ → Touched
touched_by t h reservations r word = touched r.instr.op r.effect word (reserves h.reserved r.granule && stands reservations t r.granule)

abbrev pub touches : ℕ → Hart → List ℕ → List Reservation → ℕ → Touch → Left
touches t h words reservations index r = touch_left t h words reservations index r (touched_by t h reservations r (slice_index words index))

abbrev pub operate_left : Hart → List ℕ → List Reservation → ℕ → Operation → ℕ → Left
operate_left h words reservations index r word =
    let old = field word (offset r.addr) r.size in
    let stored = word_by r.call old in
    let after : Thread = answered h.thread (answer_by r.call old) in
    let written = option_map (with_field word (offset r.addr) r.size) stored in
    record {
      hart = record h { thread = record after { began = true } };
      words = words_written words index written;
      reservations = reservations_written reservations r.granule written;
      events = first_events after ++ events_by r.call (outcome h.thread (is_some stored) 0);
    }

abbrev pub operates : Hart → List ℕ → List Reservation → ℕ → Operation → Left
operates h words reservations index r = operate_left h words reservations index r (slice_index words index)

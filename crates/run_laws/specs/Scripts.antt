-- A small bare machine whose threads follow scripts, for histories that are written out by hand.
use Rattle.std.specs.Prelude.{ℕ, zero, suc, ◌+◌, ◌/◌, ◌%◌, max, ◌==◌, ◌&&◌, if◌then◌else◌, Bool, true, false, nat_lt, List, [], ◌∷◌, ◌++◌, length, fold, slice_index_or, Option, Some, None, is_some}
use Rattle.std.specs.List.{list_any}
use Rattle.run_record.specs.declared.event.Event.{Event}
use Rattle.run_record.specs.declared.event.Event.TheVariants as events
use Rattle.run_laws.specs.Faithful.{Bare, desk}

-- At the instruction of that number, counted from 0, the thread makes these events.
pub record Line : Type 0 where
  pub instruction : ℕ
  pub events : List Event

-- the events of a thread's instruction, none where the script has no line for it
abbrev pub events_at : List Line → ℕ → List Event
events_at [] n = []
events_at (line ∷ lines) n = if line.instruction == n then line.events else events_at lines n

-- how many instructions a thread makes: its script's last line is its last one
abbrev pub instructions_in : List Line → ℕ
instructions_in lines = fold (λ (n : ℕ) (line : Line). max n (line.instruction + 1)) 0 lines

-- the object that an instruction with that event uses: the stripe of the address, or the desk
abbrev pub object_for : Event → Option ℕ
object_for (events.Create child) = Some desk
object_for events.End = Some desk
object_for (events.Join child) = Some desk
object_for (events.Put value count) = Some desk
object_for (events.Lock addr read) = Some (addr / 8 % 64)
object_for (events.Unlock addr read) = Some (addr / 8 % 64)
object_for (events.Acquire addr part) = Some (addr / 8 % 64)
object_for (events.Release addr part replaces) = Some (addr / 8 % 64)
object_for (events.Destroy addr) = Some (addr / 8 % 64)
object_for (events.Clear addr) = Some (addr / 8 % 64)
object_for (events.Access place addr size read atomic) = if atomic then Some (addr / 8 % 64) else None
object_for _ = None

-- the first of the events that uses an object tells which one
abbrev pub object_in : List Event → Option ℕ
object_in [] = None
object_in (e ∷ es) = if is_some (object_for e) then object_for e else object_in es

abbrev pub is_create : Event → Bool
is_create (events.Create child) = true
is_create _ = false

-- the list with one more at that index
abbrev pub counted : List ℕ → ℕ → List ℕ
counted [] t = []
counted (n ∷ ns) zero = suc n ∷ ns
counted (n ∷ ns) (suc t) = n ∷ counted ns t

-- the script of a thread
abbrev pub script_of : List (List Line) → ℕ → List Line
script_of scripts t = slice_index_or scripts t []

-- The machine's state is how many instructions each made thread has made. A thread lives while its script
-- goes on, and needs a slot where it makes events.
abbrev pub scripted : List (List Line) → Bare (List ℕ)
scripted scripts = record {
  start = 0 ∷ [];
  step = λ s t.
      let made = events_at (script_of scripts t) (slice_index_or s t 0) in
      record { state = if list_any is_create made then counted s t ++ 0 ∷ [] else counted s t; events = made; object = object_in made };
  lives = λ s t. nat_lt t (length s) && nat_lt (slice_index_or s t 0) (instructions_in (script_of scripts t));
  threads = λ s. length s;
  needs_slot = λ s t. nat_lt 0 (length (events_at (script_of scripts t) (slice_index_or s t 0)));
  output = λ s. [];
  ended = λ s. None;
}

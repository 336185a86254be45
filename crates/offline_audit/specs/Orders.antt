-- What an order of a history tells.
use Rattle.std.specs.Prelude.{◌≡◌, ℕ, zero, suc, ◌+◌, ◌<◌, ◌^◌, if◌then◌else◌, Bool, true, false, List, length, take, slice_get, slice_index_or, Some}
use Rattle.std.specs.List.{All}
use Rattle.run_record.specs.declared.event.Event.{Event}
use Rattle.run_record.specs.declared.entry.Entry.{Entry}
use Rattle.run_laws.specs.Moments.{Item, Does, Notes, NewEra, Past, moments, moments_in, items}
use Rattle.offline_audit.specs.declared.order.EventName.{EventName}
use Rattle.offline_audit.specs.declared.order.Row.{Row}
use Rattle.offline_audit.specs.declared.order.Order.{Order}
use Rattle.offline_audit.specs.Mutexes.{without_mutexes}
use Rattle.offline_audit.specs.Known.{AreNumbers, AreHeard, steps_between}

-- the entries, and the events of each entry, are fewer than 2^32
pub record AreFew (entries : List Entry) : Type 0 where
  pub count : length entries < 2 ^ 32
  pub events : All (λ (e : Entry). length e.events < 2 ^ 32) entries

-- the position in the moments at which the events of entry k begin, which is e: after the moments of the entries before,
-- the eras that begin, and its own beginning
abbrev pub start_of : List Entry → ℕ → Entry → ℕ
start_of entries k e = length (moments_in e.round e.era (take k entries)) + 1

-- the named event is one of the history, and stands at position n of its moments
pub record IsAt (entries : List Entry) (name : EventName) (n : ℕ) : Type 0 where
  pub entry : Entry
  pub listed : slice_get entries name.entry ≡ Some entry
  pub within : name.event < length entry.events
  pub place : n ≡ start_of entries name.entry entry + name.event

abbrev pub is_event : Item → Bool
is_event (Does t e) = true
is_event (Notes t note) = false
is_event NewEra = false
is_event Past = false

-- how many events there are before position n, which is the number of an event there
unfoldable pub events_before : (ℕ → Item) → ℕ → ℕ
events_before h zero = 0
events_before h (suc n) = events_before h n + (if is_event (h n) then 1 else 0)

-- from position n on the thread makes these events
abbrev pub Makes : (ℕ → Item) → ℕ → ℕ → List Event → Type 0
Makes h n t events = (k : ℕ) (d : Event) → k < length events → h (n + k) ≡ Does t (slice_index_or events k d)

-- the rows tell of each of the first n entries its thread, and the number of its first event, which those of the others follow
abbrev pub AreRows : (ℕ → ℕ) → List Entry → ℕ → List Row → Type 0
AreRows number entries n rows =
    (length rows ≡ n) × ((k x : ℕ) (e : Entry) (d : Row) → k < n → slice_get entries k ≡ Some e → x < length e.events →
    ((slice_index_or rows k d).tid ≡ e.tid) × ((slice_index_or rows k d).first + x ≡ number (start_of entries k e + x))
    × (number (start_of entries k e + x) < 2 ^ 64))

-- The order tells which events come before which in these items, whose events are among those of the entries.
pub record TellsOrder (h : ℕ → Item) (entries : List Entry) (o : Order) : Type 0 where
  pub number : ℕ → ℕ
  pub numbers : AreNumbers h number
  pub within : (n t : ℕ) (e : Event) → h n ≡ Does t e → n < length (moments entries)
  pub rows : AreRows number entries (length entries) o.rows.items
  pub heard : (t u : ℕ) → (u ≡ t → ⊥) → AreHeard h number (length (moments entries)) t u (steps_between o.threads t u)

-- the order of a history's events is happens-before
abbrev pub IsOrderOf : List Entry → Order → Type 0
IsOrderOf entries o = TellsOrder (items (moments entries)) entries o

-- the order of a history's events is happens-before of those that belong to no mutex
abbrev pub IsOrderWithoutMutexes : List Entry → Order → Type 0
IsOrderWithoutMutexes entries o = TellsOrder (without_mutexes (items (moments entries))) entries o

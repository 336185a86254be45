-- A history without the events by which mutexes order threads.
use Rattle.std.specs.Prelude.{◌≡◌, ℕ, zero, suc, ◌-◌, ◌==◌, max, nat_lt, if◌then◌else◌, Bool, false}
use Rattle.std.specs.BTreeMap.{BTreeMap}
use Rattle.run_record.specs.declared.event.Event.{Event}
use Rattle.run_record.specs.declared.event.Event.TheVariants.{Lock, Unlock}
use Rattle.run_laws.specs.Moments.{Item, Does, Notes, NewEra, Past}
use Rattle.offline_audit.specs.Heard.{known_of}

-- how many of a thread's next events belong to a mutex that it takes or gives back: two after a Lock to write, one after a
-- Lock to read, and one after an Unlock
abbrev pub mutex_events : Event → ℕ
mutex_events (Lock addr read) = if read then 1 else 2
mutex_events (Unlock addr read) = 1
mutex_events _ = 0

-- how many of them thread t has still to make after one more item
abbrev pub awaited_after : ℕ → Item → ℕ → ℕ
awaited_after t (Does u e) k = if u == t then max (mutex_events e) (k - 1) else k
awaited_after t (Notes u note) k = k
awaited_after t NewEra k = k
awaited_after t Past k = k

-- how many of them thread t has to make at position n
unfoldable pub awaited : (ℕ → Item) → ℕ → ℕ → ℕ
awaited h zero t = 0
awaited h (suc n) t = awaited_after t (h n) (awaited h n t)

-- the item is such an event, where the threads have to make so many of them
abbrev pub is_mutex_item : (ℕ → ℕ) → Item → Bool
is_mutex_item left (Does t e) = nat_lt 0 (left t)
is_mutex_item left (Notes t note) = false
is_mutex_item left NewEra = false
is_mutex_item left Past = false

-- at position n a thread makes an event that belongs to a mutex
abbrev pub is_mutex_event : (ℕ → Item) → ℕ → Bool
is_mutex_event h n = is_mutex_item (awaited h n) (h n)

-- the items, with the events of mutexes left out
abbrev pub without_mutexes : (ℕ → Item) → ℕ → Item
without_mutexes h n = if is_mutex_event h n then Past else h n

-- the map tells how many events of mutexes each thread has to make at position n
abbrev pub AreAwaited : (ℕ → Item) → ℕ → BTreeMap ℕ ℕ → Type 0
AreAwaited h n left = (t : ℕ) → known_of left t ≡ awaited h n t

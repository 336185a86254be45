-- The threads and the events of entries.
use Rattle.std.specs.Prelude.{◌≡◌, ℕ, ◌<◌, ◌^◌, List, [], ◌∷◌, length, take, drop, map, All}
use Rattle.run_record.specs.declared.event.Event.{Event}
use Rattle.run_record.specs.declared.entry.Entry.{Entry}
use Rattle.run_record.specs.declared.flat.Row.{Row}
use Rattle.run_record.specs.declared.walk.EntryEvents.{EntryEvents}

-- a thread and its events
abbrev pub thread_events : EntryEvents → ℕ × List Event
thread_events w = (w.tid, w.events.now)

-- Item by item the list has the entries' threads and events, and each entry has fewer than 2^32 events.
pub record AreEventsOf (entries : List Entry) (walk : List EntryEvents) : Type 0 where
  pub same : map thread_events walk ≡ map (λ (e : Entry). (e.tid, e.events)) entries
  pub few : All (λ (e : Entry). length e.events < 2 ^ 32) entries

-- the threads of rows, and their events, which follow one another
abbrev pub rows_events : List Row → List Event → List (ℕ × List Event)
rows_events [] events = []
rows_events (r ∷ rows) events = (r.head.tid, take r.events events) ∷ rows_events rows (drop r.events events)

pub record AreRowEvents (rows : List Row) (events : List Event) (walk : List EntryEvents) : Type 0 where
  pub same : map thread_events walk ≡ rows_events rows events
  pub few : All (λ (w : EntryEvents). length w.events.now < 2 ^ 32) walk

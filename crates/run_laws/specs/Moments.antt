-- A history as one list of moments: all that happens in a run, one thing after another.
use Rattle.std.specs.Prelude.{◌≡◌, ℕ, ◌≤◌, ◌+◌, ◌-◌, ◌==◌, AllPairs, List, [], ◌∷◌, ◌++◌, map, filter, replicate, slice_index_or, fold, length}
use Rattle.std.specs.List.{enumerate_from}
use Rattle.run_record.specs.declared.event.Event.{Event}
use Rattle.run_record.specs.declared.entry.DeskNote.{DeskNote}
use Rattle.run_record.specs.declared.entry.Check.{Check}
use Rattle.run_record.specs.declared.entry.Entry.{Entry}

-- What happens: a thread makes an event; an entry of a thread begins, with its note; an era begins. Past the
-- end nothing happens.
pub data Item : Type 0 where
  Does : (tid : ℕ) (event : Event) → Item
  Notes : (tid : ℕ) (note : DeskNote) → Item
  NewEra : Item
  Past : Item

-- One moment: the number of its entry, the round, what happens, and the checks of the access that is made.
pub record Moment : Type 0 where
  pub entry : ℕ
  pub round : ℕ
  pub item : Item
  pub checks : List Check

-- the checks of the event at that place of its entry
abbrev pub checks_at : ℕ → List Check → List Check
checks_at place checks = filter (λ (c : Check). c.event == place) checks

abbrev pub event_moment : ℕ → Entry → ℕ × Event → Moment
event_moment i e (place, event) = record { entry = i; round = e.round; item = Does e.tid event; checks = checks_at place e.checks }

-- an entry: its beginning with the note, then its events
abbrev pub entry_moments : ℕ → Entry → List Moment
entry_moments i e =
    record { entry = i; round = e.round; item = Notes e.tid e.note; checks = [] } ∷ map (event_moment i e) (enumerate_from 0 e.events)

-- the eras that begin before entry i of that round and era, after an entry of the era before
abbrev pub era_moments : ℕ → ℕ → ℕ → ℕ → List Moment
era_moments before i round era = replicate (era - before) (record { entry = i; round = round; item = NewEra; checks = [] })

abbrev pub moments_from : ℕ → ℕ → List Entry → List Moment
moments_from era i [] = []
moments_from era i (e ∷ es) = era_moments era i e.round e.era ++ (entry_moments i e ++ moments_from e.era (i + 1) es)

-- the moments of a history, whose first era is 0
abbrev pub moments : List Entry → List Moment
moments entries = moments_from 0 0 entries

-- the era of the last entry
abbrev pub last_era : List Entry → ℕ
last_era entries = fold (λ (era : ℕ) (e : Entry). e.era) 0 entries

-- the moments before the next entry, which is of that round and era
abbrev pub moments_in : ℕ → ℕ → List Entry → List Moment
moments_in round era entries = moments entries ++ era_moments (last_era entries) (length entries) round era

abbrev pub moment_at : List Moment → ℕ → Moment
moment_at h n = slice_index_or h n (record { entry = 0; round = 0; item = Past; checks = [] })

-- what happens at a position of the history
abbrev pub items : List Moment → ℕ → Item
items h n = (moment_at h n).item

-- rounds never fall along the history
abbrev pub RoundsNeverFall : List Entry → Type 0
RoundsNeverFall entries = AllPairs (λ (d e : Entry). d.round ≤ e.round) entries

-- eras never fall along the history
abbrev pub ErasNeverFall : List Entry → Type 0
ErasNeverFall entries = AllPairs (λ (d e : Entry). d.era ≤ e.era) entries

-- the item is the beginning or an event of an entry of thread t
abbrev pub IsBy : ℕ → Item → Type 0
IsBy t (Does u event) = u ≡ t
IsBy t (Notes u note) = u ≡ t
IsBy t NewEra = ⊥
IsBy t Past = ⊥

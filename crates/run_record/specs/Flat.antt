-- The entries for which flat lists stand.
use Rattle.std.specs.Prelude.{◌≡◌, ◌≤◌, ℕ, suc, ◌+◌, List, [], ◌∷◌, length, take, drop, Option, Some, None, option_map, vec_len, vec_capacity}
use Rattle.run_record.specs.declared.event.Event.{Event}
use Rattle.run_record.specs.declared.entry.Check.{Check}
use Rattle.run_record.specs.declared.entry.DeskNote.{DeskNote}
use Rattle.run_record.specs.declared.entry.DeskNote.TheVariants.{Nothing}
use Rattle.run_record.specs.declared.entry.Entry.{Entry}
use Rattle.run_record.specs.declared.flat.Head.{Head}
use Rattle.run_record.specs.declared.flat.Row.{Row}
use Rattle.run_record.specs.declared.flat.Mark.{Mark}
use Rattle.run_record.specs.declared.flat.KeptCheck.{KeptCheck}
use Rattle.run_record.specs.declared.flat.Flat.{Flat}
use Rattle.run_record.specs.Marks.{first_at, rest_at, AreUsed}

-- the check, where it stored that word
abbrev pub check_of : KeptCheck → ℕ → Check
check_of c word =
    record { event = c.event; granule = c.granule; word = c.word; turn = c.turn; cells = c.cells; stored = option_map (λ (cell : ℕ). (cell, word)) c.cell }

-- the checks from that number on
abbrev pub checks_of : ℕ → List KeptCheck → List (Mark ℕ) → List Check
checks_of n [] words = []
checks_of n (c ∷ checks) words = check_of c (first_at n c.word words) ∷ checks_of (suc n) checks (rest_at n words)

abbrev pub entry_of : Head → DeskNote → List Event → List Check → Entry
entry_of h note events checks = record {
  round = h.round;
  era = h.era;
  stamp = h.stamp;
  tid = h.tid;
  steps = h.steps;
  note = note;
  events = events;
  checks = checks;
}

-- what an entry has but for its note, its events and its checks
abbrev pub head_of : Entry → Head
head_of e = record { round = e.round; era = e.era; stamp = e.stamp; tid = e.tid; steps = e.steps }

-- the entries from that number on, whose events and checks follow one another
abbrev pub entries_of : ℕ → List Row → List (Mark DeskNote) → List Event → List Check → List Entry
entries_of n [] notes events checks = []
entries_of n (r ∷ rows) notes events checks =
    entry_of r.head (first_at n Nothing notes) (take r.events events) (take r.checks checks) ∷ entries_of (suc n) rows (rest_at n notes)
    (drop r.events events) (drop r.checks checks)

-- the word that was stored, or else the check's own
abbrev pub stored_word : ℕ → Option (ℕ × ℕ) → ℕ
stored_word own None = own
stored_word own (Some s) = s.1

abbrev pub event_count : List Row → ℕ
event_count [] = 0
event_count (r ∷ rows) = r.events + event_count rows

abbrev pub check_count : List Row → ℕ
check_count [] = 0
check_count (r ∷ rows) = r.checks + check_count rows

-- The counts of the rows add up, and the marks are of entries and checks that are there.
pub record AreWhole (rows : List Row) (notes : List (Mark DeskNote)) (events : List Event) (checks : List KeptCheck) (words : List (Mark ℕ)) : Type 0 where
  pub events_are : event_count rows ≡ length events
  pub checks_are : check_count rows ≡ length checks
  pub notes_are : AreUsed 0 (length rows) notes
  pub words_are : AreUsed 0 (length checks) words

-- the entries that the flat lists stand for
abbrev pub flat_entries : Flat → List Entry
flat_entries f = entries_of 0 f.rows.items f.notes.items f.events.items (checks_of 0 f.checks.items f.words.items)

abbrev pub IsWhole : Flat → Type 0
IsWhole f = AreWhole f.rows.items f.notes.items f.events.items f.checks.items f.words.items

-- the same lists
pub record IsSame (f g : Flat) : Type 0 where
  pub rows : g.rows.items ≡ f.rows.items
  pub notes : g.notes.items ≡ f.notes.items
  pub events : g.events.items ≡ f.events.items
  pub checks : g.checks.items ≡ f.checks.items
  pub words : g.words.items ≡ f.words.items

-- there is room for so many entries, with so many events and checks in all
pub record HasRoom (f : Flat) (n es cs : ℕ) : Type 0 where
  pub rows : vec_len f.rows + n ≤ vec_capacity f.rows
  pub notes : vec_len f.notes + n ≤ vec_capacity f.notes
  pub events : vec_len f.events + es ≤ vec_capacity f.events
  pub checks : vec_len f.checks + cs ≤ vec_capacity f.checks
  pub words : vec_len f.words + cs ≤ vec_capacity f.words

-- one entry with so many events and checks takes no more room than its own
abbrev pub KeepsRoom : Flat → Flat → ℕ → ℕ → Type 0
KeepsRoom f g events checks = (n es cs : ℕ) → HasRoom f (n + 1) (events + es) (checks + cs) → HasRoom g n es cs

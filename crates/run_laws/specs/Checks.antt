-- The checks of an access, and what they store.
use Rattle.std.specs.Prelude.{◌≡◌, ℕ, ◌%◌, List, [], length, flat_map, Option, Some, None, option_map, All, Contains}
use Rattle.std.specs.List.{AllZip}
use Rattle.run_record.specs.declared.event.Event.{Event}
use Rattle.run_record.specs.declared.entry.Entry.{Entry}
use Rattle.run_record.specs.declared.entry.Check.{Check}
use Rattle.run_record.specs.declared.entry.Label.{Label}
use Rattle.run_laws.specs.Moments.{Does, Moment, moment_at, items, checks_at}
use Rattle.run_laws.specs.Labels.{label_of}
use Rattle.run_laws.specs.Accesses.{Access, access_of, Part, parts_of}
use Rattle.run_laws.specs.Numbers.{up_from}
use Rattle.run_laws.specs.Words.{word_of, cell_for}
use Rattle.run_laws.specs.Window.{trace_before}

-- The check of a part of thread t's access at position n: the thread has a label, and the check has the
-- part's granule, its word, the count of the thread's earlier trace events modulo 4, and four loaded words.
pub record ChecksPart (g : ℕ) (h : List Moment) (n t : ℕ) (a : Access) (part : Part) (check : Check) : Type 0 where
  pub label : Label
  pub labelled : label_of g (items h) n t ≡ Some label
  pub granule : check.granule ≡ part.granule
  pub word : check.word ≡ word_of part.mask label a.read a.atomic
  pub turn : check.turn ≡ length (trace_before g (items h) n t) % 4
  pub four : length check.cells ≡ 4

-- an access has one check for each of its parts, in their order, and no other event has checks
abbrev pub AreChecks : ℕ → (ℕ → Option ℕ) → List Moment → ℕ → ℕ → Option Access → Type 0
AreChecks g granule_of h n t (Some a) = AllZip (ChecksPart g h n t a) (parts_of granule_of a) (moment_at h n).checks
AreChecks g granule_of h n t None = (moment_at h n).checks ≡ []

-- an entry's checks stand in the order of their events, and each belongs to one of them
abbrev pub IsGrouped : Entry → Type 0
IsGrouped e = e.checks ≡ flat_map (λ (i : ℕ). checks_at i e.checks) (up_from 0 (length e.events))

-- the checks of a history are those of its accesses
pub record AreAllChecks (g : ℕ) (granule_of : ℕ → Option ℕ) (entries : List Entry) (h : List Moment) : Type 0 where
  pub of_events : (n t : ℕ) (e : Event) → items h n ≡ Does t e → AreChecks g granule_of h n t (access_of e)
  pub grouped : All IsGrouped entries

-- a check stores its own word, in the cell that the store rule gives for the words that it loaded
abbrev pub StoresRightly : Check → Type 0
StoresRightly c = c.stored ≡ option_map (λ (i : ℕ). (i, c.word)) (cell_for c.word c.cells c.turn)

-- each check of an access does
abbrev pub AllStoreRightly : List Moment → Type 0
AllStoreRightly h = (n : ℕ) (c : Check) → Contains (moment_at h n).checks c → StoresRightly c

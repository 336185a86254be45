-- Moments that are still going on: which checks stand rightly from a position on, and which label was spent there.
use Rattle.std.specs.Prelude.{◌≡◌, ◌≤◌, ◌<◌, ℕ, ◌%◌, ◌==◌, ◌&&◌, if◌then◌else◌, List, [], ◌∷◌, ◌++◌, length, All, Contains, Option, Some, None, slice_get}
use Rattle.std.specs.List.{AllZip}
use Rattle.run_record.specs.declared.event.Event.{Event}
use Rattle.run_record.specs.declared.entry.Entry.{Entry}
use Rattle.run_record.specs.declared.entry.Check.{Check}
use Rattle.run_record.specs.declared.entry.Label.{Label}
use Rattle.run_record.specs.declared.limits.Limits.{Limits}
use Rattle.run_laws.specs.Moments.{Does, NewEra, Moment, moment_at, items}
use Rattle.run_laws.specs.Labels.{raises}
use Rattle.run_laws.specs.DeskNotes.{Spends}
use Rattle.run_laws.specs.Accesses.{Access, access_of, Part, parts_of}
use Rattle.run_laws.specs.Words.{word_of}
use Rattle.run_laws.specs.Checks.{AreChecks, StoresRightly}
use Rattle.run_laws.specs.Loads.{cell_before}
use Rattle.run_laws.specs.Present.{label_now, trace_now, cell_now}

-- From a position on, checks are those of the accesses, store by the rule and load the last stored words.
pub record AreRightFrom (g : ℕ) (granule_of : ℕ → Option ℕ) (h : List Moment) (from : ℕ) : Type 0 where
  pub checks : (n t : ℕ) (e : Event) → from ≤ n → items h n ≡ Does t e → AreChecks g granule_of h n t (access_of e)
  pub stores : (n : ℕ) (c : Check) → from ≤ n → Contains (moment_at h n).checks c → StoresRightly c
  pub loads :
      (n : ℕ) (c : Check) → from ≤ n → Contains (moment_at h n).checks c → (cell word : ℕ) →
      slice_get c.cells cell ≡ Some word → word ≡ cell_before h c.granule cell n

-- From a position on, thread t spent that label, and nothing else was spent.
pub record HasSpent (limits : Limits) (h : List Moment) (from t : ℕ) (spent : Option Label) : Type 0 where
  pub only : (n u : ℕ) (l : Label) → from ≤ n → Spends limits h n u l → (u ≡ t) × (spent ≡ Some l)
  pub there : (l : Label) → spent ≡ Some l → (n : ℕ) × (from ≤ n) × Spends limits h n t l

-- the label that an event of a thread with that label spends: a Release or Create does at the greatest epoch
abbrev pub spent_by : ℕ → Option Label → Event → Option Label
spent_by g None e = None
spent_by g (Some l) e = if (raises e == 1) && (l.epoch == g) then Some l else None

-- The check of a part of thread t's access that comes next: the thread has a label, and the check has the
-- part's granule, its word, the count of the thread's trace events modulo 4, and four loaded words.
pub record ChecksPartNow (g : ℕ) (h : List Moment) (t : ℕ) (a : Access) (part : Part) (check : Check) : Type 0 where
  pub label : Label
  pub labelled : label_now g h t ≡ Some label
  pub granule : check.granule ≡ part.granule
  pub word : check.word ≡ word_of part.mask label a.read a.atomic
  pub turn : check.turn ≡ length (trace_now g h t) % 4
  pub four : length check.cells ≡ 4

-- these are the checks of thread t's next event: one for each part of its access, and none without an access
abbrev pub AreChecksNow : ℕ → (ℕ → Option ℕ) → List Moment → ℕ → Option Access → List Check → Type 0
AreChecksNow g granule_of h t (Some a) checks = AllZip (ChecksPartNow g h t a) (parts_of granule_of a) checks
AreChecksNow g granule_of h t None checks = checks ≡ []

-- each word that the check loaded is the one in its cell
abbrev pub LoadsNow : List Moment → Check → Type 0
LoadsNow h c = (cell word : ℕ) → slice_get c.cells cell ≡ Some word → word ≡ cell_now h c.granule cell

-- These checks stand rightly beside thread t's next event.
pub record AreRightNow (g : ℕ) (granule_of : ℕ → Option ℕ) (h : List Moment) (t : ℕ) (e : Event) (checks : List Check) : Type 0 where
  pub of_access : AreChecksNow g granule_of h t (access_of e) checks
  pub stores : All StoresRightly checks
  pub loads : All (LoadsNow h) checks

-- the moment is no event
abbrev pub IsNoEvent : Moment → Type 0
IsNoEvent m = (t : ℕ) (e : Event) → m.item ≡ Does t e → ⊥

-- the entry with one more event and its checks
abbrev pub with_event : Entry → Event → List Check → Entry
with_event e event checks = record e { events = e.events ++ event ∷ []; checks = e.checks ++ checks }

-- each check of the entry belongs to one of its events
abbrev pub AreOfEvents : Entry → Type 0
AreOfEvents e = All (λ (c : Check). c.event < length e.events) e.checks

-- Two moments are alike where the same happens at them, with the same checks; their rounds and entries may differ.
abbrev pub IsAlike : Moment → Moment → Type 0
IsAlike m n = (m.item ≡ n.item) × (m.checks ≡ n.checks)

-- moments that are alike, one by one
abbrev pub AreAlike : List Moment → List Moment → Type 0
AreAlike h k = AllZip IsAlike h k

-- the beginning of an era before entry i of that round
abbrev pub era_moment : ℕ → ℕ → Moment
era_moment i round = record { entry = i; round = round; item = NewEra; checks = [] }

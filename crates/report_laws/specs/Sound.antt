-- What is known of the entries of a history before its reports are made, and what a thread's clock finds of the
-- words that its access loaded.
use Rattle.std.specs.Prelude.{◌≡◌, ℕ, ◌*◌, ◌<◌, ◌≤◌, Bool, List, Option, Some, All, find, flat_map, map}
use Rattle.run_record.specs.declared.entry.Entry.{Entry}
use Rattle.run_record.specs.declared.entry.Check.{Check}
use Rattle.run_record.specs.declared.limits.Limits.{Limits}
use Rattle.run_laws.specs.Moments.{Moment, moments, moment_at, items}
use Rattle.run_laws.specs.Clocks.{clocks}
use Rattle.run_laws.specs.DeskNotes.{AreNotes}
use Rattle.run_laws.specs.Checks.{AreAllChecks, AllStoreRightly}
use Rattle.run_laws.specs.Loads.{AllLoadRightly}
use Rattle.run_laws.specs.Candidates.{is_race}

-- The limits are in the ranges of a word's fields; notes stand rightly, checks are those of the accesses, and
-- they store and load by the rules.
pub record IsSound (limits : Limits) (granule_of : ℕ → Option ℕ) (needs_slot : ℕ → Bool) (entries : List Entry) : Type 0 where
  pub few_slots : limits.slots ≤ 255
  pub some_epochs : 1 ≤ limits.epochs
  pub few_epochs : limits.epochs ≤ 16383
  pub notes : AreNotes limits needs_slot (moments entries)
  pub checks : AreAllChecks limits.epochs granule_of entries (moments entries)
  pub stores : AllStoreRightly (moments entries)
  pub loads : AllLoadRightly limits.epochs (moments entries)

-- The address of a granule is where it begins. So no two blocks of eight bytes are one granule.
abbrev pub TellsAddresses : (ℕ → Option ℕ) → (ℕ → ℕ) → Type 0
TellsAddresses granule_of address_of = (block granule : ℕ) → granule_of (8 * block) ≡ Some granule → address_of granule ≡ 8 * block

-- The later entries are of later rounds than those before.
abbrev pub AreOfLaterRounds : List Entry → List Entry → Type 0
AreOfLaterRounds entries later = All (λ (e : Entry). All (λ (d : Entry). d.round < e.round) entries) later

-- the first word that the check loaded and that the clock finds to race with the check's own
abbrev pub race_in : (ℕ → ℕ) → Check → Option ℕ
race_in clock c = find (is_race clock c.word) c.cells

-- the first such word of some checks, with its check
abbrev pub first_race_in : (ℕ → ℕ) → List Check → Option (Check × ℕ)
first_race_in clock checks = find (λ (l : Check × ℕ). is_race clock l.0.word l.1) (flat_map (λ (c : Check). map (λ (w : ℕ). (c, w)) c.cells) checks)

-- the first one of thread t's access at position n, by its clock there
abbrev pub first_race : ℕ → List Moment → ℕ → ℕ → Option (Check × ℕ)
first_race g h n t = first_race_in ((clocks g (items h) n).thread t) (moment_at h n).checks

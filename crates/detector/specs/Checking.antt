-- An access whose parts are checked one after another.
use Rattle.std.specs.Prelude.{◌≡◌, ◌≢◌, ◌<◌, ◌*◌, ℕ, List, [], ◌++◌, length, fold, All, slice_index, Option, Some}
use Rattle.std.specs.List.{AllZip}
use Rattle.run_record.specs.declared.event.Event.{Event}
use Rattle.run_record.specs.declared.entry.Check.{Check}
use Rattle.run_record.specs.declared.limits.Limits.{Limits}
use Rattle.elf_image.specs.File.{granules_of}
use Rattle.run_laws.specs.Moments.{Moment}
use Rattle.run_laws.specs.Accesses.{Access, access_of}
use Rattle.run_laws.specs.Words.{sid}
use Rattle.run_laws.specs.Loads.{cell_after}
use Rattle.run_laws.specs.Checks.{StoresRightly}
use Rattle.run_laws.specs.Present.{cell_now}
use Rattle.turn_laws.specs.Going.{ChecksPartNow, LoadsNow}
use Rattle.report_laws.specs.Sound.{first_race_in}
use Rattle.race_core.specs.Walk.{planned}
use Rattle.hart_events.specs.declared.checks.Raced.{Raced}
use Rattle.detector.specs.Detected.{Detected, watcher_of, shadow_at}
use Rattle.hart_events.specs.Checks.{raced_of}
use Rattle.detector.specs.Stands.{Stands}

-- the words that stand after some checks of the next access
abbrev pub cell_then : List Moment → List Check → ℕ → ℕ → ℕ
cell_then h checks granule cell = fold (cell_after granule cell) (cell_now h granule cell) checks

-- the shadow among the checks of an access
pub record IsShadowThen (granules slots : ℕ) (h : List Moment) (checks : List Check) (shadow : List ℕ) : Type 0 where
  pub whole : length shadow ≡ 4 * granules
  pub last : (granule cell : ℕ) → granule < granules → cell < 4 → shadow_at shadow granule cell ≡ cell_then h checks granule cell
  pub within : (granule cell : ℕ) → granule < granules → cell < 4 → shadow_at shadow granule cell ≢ 0 → sid (shadow_at shadow granule cell) < slots

-- Some parts of an access are checked: their checks are right beside the thread's next event, and the shadow is what they leave.
pub record Checking (granules : ℕ) (limits : Limits) (h : List Moment) (t : ℕ) (a : Access) (done : List (ℕ × ℕ)) (checks : List Check) (shadow : List ℕ) : Type 0 where
  pub zipped : AllZip (λ (p : ℕ × ℕ) (c : Check). ChecksPartNow limits.epochs h t a (record { granule = p.0; mask = p.1 }) c) done checks
  pub stores : All StoresRightly checks
  pub loads : All (LoadsNow h) checks
  pub shadow_is : IsShadowThen granules limits.slots h checks shadow

-- the detector stands as some history leaves it
pub record IsStanding (granules : ℕ) (d : Detected) : Type 0 where
  pub from : ℕ
  pub leaving : Option ℕ
  pub history : List Moment
  pub stands : Stands granules d.limits from leaving history d

-- Some parts of thread t's access, the one at that place of its entry, are checked: the done ones, of which checks were added to those before, with
-- the first word that races; the other parts are left.
pub record Half (file : List ℕ) (old new : Detected) (t place : ℕ) (e : Event) (before after : List Check) (left : List (ℕ × ℕ)) (raced : Option Raced) : Type 0 where
  pub access : Access
  pub is_access : access_of e ≡ Some access
  pub done : List (ℕ × ℕ)
  pub parts : planned file access ≡ done ++ left
  pub added : List Check
  pub checks_are : after ≡ before ++ added
  pub of_event : All (λ (c : Check). c.event ≡ place) added
  pub rest : new ≡ record old { shadow = new.shadow }
  pub checking :
      (from : ℕ) (leaving : Option ℕ) (h : List Moment) → Stands (granules_of file) old.limits from leaving h old →
      Checking (granules_of file) old.limits h t access done added new.shadow
  pub raced_is : raced ≡ raced_of (first_race_in (slice_index (watcher_of old t).clock) added)

-- all parts are
abbrev pub ChecksAll : List ℕ → Detected → Detected → ℕ → ℕ → Event → List Check → List Check → Option Raced → Type 0
ChecksAll file old new t place e before after raced = Half file old new t place e before after [] raced

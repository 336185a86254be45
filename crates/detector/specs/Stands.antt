-- A detector that stands as a history leaves it.
use Rattle.std.specs.Prelude.{◌≡◌, ◌≢◌, ◌<◌, ℕ, ◌*◌, ◌==◌, Bool, false, List, length, map, Option, Some, None}
use Rattle.run_record.specs.declared.limits.Limits.{Limits}
use Rattle.run_laws.specs.Moments.{Moment, items}
use Rattle.run_laws.specs.Words.{sid}
use Rattle.run_laws.specs.Present.{labels_now, clocks_now, cell_now}
use Rattle.slot_desk.specs.History.{IsDeskAt}
use Rattle.sync_slab.specs.Channels.{KeepsChannels, everywhere}
use Rattle.race_core.specs.History.{IsWatcherAt, IsWithin, era_now}
use Rattle.race_core.specs.declared.watcher.Candidate.{Candidate}
use Rattle.thread_events.specs.Standing.{AreSettled}
use Rattle.report_laws.specs.Awaited.{Awaited, Collects}
use Rattle.detector.specs.Detected.{Detected, watcher_of, shadow_at}

-- a candidate as the laws of reports have it
abbrev pub awaited : Candidate → Awaited
awaited c = record { mine = c.mine; granule = c.granule; word = c.word }

-- The shadow has four words a granule: the last ones that were stored there. Their slots are those of the limits.
pub record IsShadow (granules slots : ℕ) (h : List Moment) (shadow : List ℕ) : Type 0 where
  pub whole : length shadow ≡ 4 * granules
  pub last : (granule cell : ℕ) → granule < granules → cell < 4 → shadow_at shadow granule cell ≡ cell_now h granule cell
  pub within : (granule cell : ℕ) → granule < granules → cell < 4 → shadow_at shadow granule cell ≢ 0 → sid (shadow_at shadow granule cell) < slots

-- the thread, if any, is the one that is to leave the slot that it spent
abbrev pub is_leaving : Option ℕ → ℕ → Bool
is_leaving None t = false
is_leaving (Some u) t = t == u

-- The detector stands as the history leaves it: era, desk, objects, watchers and shadow are what the history says; and
-- what waits are the accesses since that position that the test by clocks finds to race. Where a thread has spent its slot
-- and is still to leave it, `leaving` names it.
pub record Stands (granules : ℕ) (limits : Limits) (from : ℕ) (leaving : Option ℕ) (h : List Moment) (d : Detected) : Type 0 where
  pub limits_are : d.limits ≡ limits
  pub era : d.era ≡ era_now limits.epochs h
  pub desk : IsDeskAt limits.epochs limits.slots (items h) (length h) d.desk
  pub objects : KeepsChannels everywhere d.era (clocks_now limits.epochs h) d.objects
  pub object_slots : d.objects.slots ≡ limits.slots
  pub watchers : (t : ℕ) → IsWatcherAt limits h t (watcher_of d t)
  pub settled : AreSettled (is_leaving leaving) (labels_now limits.epochs h) d.desk
  pub as_many : length d.watchers ≡ d.desk.made
  pub within : IsWithin limits.slots (labels_now limits.epochs h) (clocks_now limits.epochs h)
  pub shadow : IsShadow granules limits.slots h d.shadow
  pub waiting : Collects limits.epochs h from (length h) (map awaited d.waiting)

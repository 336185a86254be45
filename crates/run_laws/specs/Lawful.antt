-- Lawful histories.
use Rattle.std.specs.Prelude.{◌≡◌, ℕ, List, Option}
use Rattle.run_record.specs.declared.entry.Entry.{Entry}
use Rattle.run_record.specs.declared.limits.Limits.{Limits}
use Rattle.run_record.specs.declared.finished.LastState.{LastState}
use Rattle.run_record.specs.declared.plan.Turn.{Turn}
use Rattle.run_laws.specs.Moments.{moments}
use Rattle.run_laws.specs.DeskNotes.{AreNotes}
use Rattle.run_laws.specs.Checks.{AreAllChecks, AllStoreRightly}
use Rattle.run_laws.specs.Loads.{AllLoadRightly, AllLoadLast}
use Rattle.run_laws.specs.Faithful.{Bare, state_after, Mode, OneByOne, IsFaithful, needs_slot}
use Rattle.run_laws.specs.Rounds.{Progress, Reaches, Ends, NeedsLabel}

-- The history is that of a whole run in rounds, and last is its last state.
pub record IsWholeRun {S : Type 0} (mode : Mode) (limits : Limits) (plan : List Turn) (bare : Bare S) (entries : List Entry) (last : LastState) : Type 0 where
  pub progress : Progress
  pub reached : Reaches mode limits bare plan progress
  pub history_is : entries ≡ progress.entries
  pub ends : Ends mode limits bare progress last.end
  pub threads_are : last.threads ≡ bare.threads (state_after bare entries)
  pub rounds_are : last.rounds ≡ progress.round
  pub era_is : last.era ≡ progress.last_era

-- The history is lawful: it tells what the bare machine does, in whole rounds; its notes stand rightly; its
-- checks are those of its accesses, and store and load by the rules.
pub record IsLawful {S : Type 0} (mode : Mode) (limits : Limits) (plan : List Turn) (bare : Bare S) (granule_of : ℕ → Option ℕ) (entries : List Entry) : Type 0 where
  pub faithful : IsFaithful mode bare entries
  pub last : LastState
  pub rounds : IsWholeRun mode limits plan bare entries last
  pub labelled : NeedsLabel limits (needs_slot bare entries) (moments entries)
  pub notes : AreNotes limits (needs_slot bare entries) (moments entries)
  pub checks : AreAllChecks limits.epochs granule_of entries (moments entries)
  pub stores : AllStoreRightly (moments entries)
  pub loads : AllLoadRightly limits.epochs (moments entries)
  pub loads_last : mode ≡ OneByOne → AllLoadLast (moments entries)

-- A history that is lawful so far, where threads run one at a time.
use Rattle.std.specs.Prelude.{ℕ, List, Option}
use Rattle.run_record.specs.declared.entry.Entry.{Entry}
use Rattle.run_record.specs.declared.limits.Limits.{Limits}
use Rattle.run_laws.specs.Moments.{moments, RoundsNeverFall, ErasNeverFall}
use Rattle.run_laws.specs.DeskNotes.{AreNotes}
use Rattle.run_laws.specs.Checks.{AreAllChecks, AllStoreRightly}
use Rattle.run_laws.specs.Loads.{AllLoadLast}
use Rattle.run_laws.specs.Faithful.{Bare, OneByOne, IsFaithful, needs_slot}
use Rattle.run_laws.specs.Rounds.{NeedsLabel}

-- The entries tell what the bare machine does; their notes stand rightly; their checks are those of their
-- accesses, store by the rule and load the last stored words; and neither rounds nor eras fall.
pub record IsLawfulSoFar {S : Type 0} (limits : Limits) (bare : Bare S) (granule_of : ℕ → Option ℕ) (entries : List Entry) : Type 0 where
  pub faithful : IsFaithful OneByOne bare entries
  pub labelled : NeedsLabel limits (needs_slot bare entries) (moments entries)
  pub notes : AreNotes limits (needs_slot bare entries) (moments entries)
  pub checks : AreAllChecks limits.epochs granule_of entries (moments entries)
  pub stores : AllStoreRightly (moments entries)
  pub loads : AllLoadLast (moments entries)
  pub rounds : RoundsNeverFall entries
  pub eras : ErasNeverFall entries

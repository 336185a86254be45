-- Histories that stop at a round's end.
use Rattle.std.specs.Prelude.{◌≡◌, ◌<◌, ◌≤◌, ℕ, List, ◌++◌, All, Option}
use Rattle.run_record.specs.declared.entry.Entry.{Entry}
use Rattle.run_record.specs.declared.limits.Limits.{Limits}
use Rattle.run_record.specs.declared.plan.Turn.{Turn}
use Rattle.run_laws.specs.Moments.{moments}
use Rattle.run_laws.specs.DeskNotes.{AreNotes}
use Rattle.run_laws.specs.Checks.{AreAllChecks, AllStoreRightly}
use Rattle.run_laws.specs.Loads.{AllLoadRightly, AllLoadLast}
use Rattle.run_laws.specs.Faithful.{Bare, Mode, OneByOne, IsFaithful, needs_slot}
use Rattle.run_laws.specs.Rounds.{Progress, Reaches, NeedsLabel}
use Rattle.run_laws.specs.Reports.{Kept}
use Rattle.report_laws.specs.Sound.{AreOfLaterRounds}

-- the list begins with the other
pub record BeginsWith {X : Type 0} (whole start : List X) : Type 0 where
  pub rest : List X
  pub whole_is : whole ≡ start ++ rest

-- The entries are those of the first rounds of a run, or of none.
pub record AreWholeRounds {S : Type 0} (mode : Mode) (limits : Limits) (plan : List Turn) (bare : Bare S) (entries : List Entry) : Type 0 where
  pub progress : Progress
  pub reached : Reaches mode limits bare plan progress
  pub history_is : entries ≡ progress.entries

-- The history is lawful but for what a lawful one says of its run's end: it tells what the bare machine does, in whole
-- rounds; its notes stand rightly; its checks are those of its accesses, and store and load by the rules.
pub record IsLawfulStart
    {S : Type 0} (mode : Mode) (limits : Limits) (plan : List Turn) (bare : Bare S) (granule_of : ℕ → Option ℕ)
    (entries : List Entry) : Type 0 where
  pub faithful : IsFaithful mode bare entries
  pub rounds : AreWholeRounds mode limits plan bare entries
  pub labelled : NeedsLabel limits (needs_slot bare entries) (moments entries)
  pub notes : AreNotes limits (needs_slot bare entries) (moments entries)
  pub checks : AreAllChecks limits.epochs granule_of entries (moments entries)
  pub stores : AllStoreRightly (moments entries)
  pub loads : AllLoadRightly limits.epochs (moments entries)
  pub loads_last : mode ≡ OneByOne → AllLoadLast (moments entries)

-- The history goes on after the start, by entries of later rounds.
pub record GoesOn (start whole : List Entry) : Type 0 where
  pub later : List Entry
  pub whole_is : whole ≡ start ++ later
  pub of_later_rounds : AreOfLaterRounds start later

-- The history goes on after the start by the entries of one round, or by none.
pub record GoesOnByRound (start whole : List Entry) : Type 0 where
  pub last : List Entry
  pub whole_is : whole ≡ start ++ last
  pub round : ℕ
  pub of_round : All (λ (e : Entry). e.round ≡ round) last
  pub of_earlier_rounds : All (λ (e : Entry). e.round < round) start

-- What was reported goes on: by more reports after those before, and no fewer suppressed and equal ones.
pub record ReportsGoOn (start whole : Kept) : Type 0 where
  pub reports : BeginsWith whole.reports start.reports
  pub suppressed : start.suppressed ≤ whole.suppressed
  pub equal : start.equal ≤ whole.equal

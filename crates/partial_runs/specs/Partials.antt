-- Runs up to the end of one of their rounds.
use Rattle.std.specs.Prelude.{◌≡◌, ℕ, Bool, List, Option}
use Rattle.run_record.specs.declared.limits.Limits.{Limits}
use Rattle.run_record.specs.declared.plan.Turn.{Turn}
use Rattle.run_record.specs.declared.finished.Finished.{Finished}
use Rattle.elf_image.specs.File.{granule_of, granule_address}
use Rattle.run_laws.specs.Moments.{moments}
use Rattle.run_laws.specs.Faithful.{Mode, state_after}
use Rattle.run_laws.specs.Reports.{Kept, AreReports}
use Rattle.machine_laws.specs.Machine.{bare_of}
use Rattle.partial_runs.specs.declared.partial.Partial.{Partial}
use Rattle.partial_runs.specs.Starts.{BeginsWith, IsLawfulStart}

-- What is left is a run of the file in that mode, by the limits, the plan and the rules, up to some round's end. Its history
-- is lawful but for what is said of a run's end, its reports are those of the history, and its output is that of the
-- bare machine over the history's instructions.
pub record IsPartial
    (mode : Mode) (file : List ℕ) (limits : Limits) (plan : List Turn)
    (meets : Option (List ℕ) → Option (List ℕ) → Bool) (p : Partial) : Type 0 where
  pub lawful : IsLawfulStart mode limits plan (bare_of file limits.harts) (granule_of file) p.history.entries
  pub kept : Kept
  pub kept_are : AreReports limits (granule_address file) meets (moments p.history.entries) kept
  pub reports : p.reports ≡ kept.reports
  pub output : p.output ≡ (state_after (bare_of file limits.harts) p.history.entries).output

-- the finished run begins with the partial one, in entries, reports and output
pub record IsBeginning (p : Partial) (f : Finished) : Type 0 where
  pub entries : BeginsWith f.history.entries p.history.entries
  pub reports : BeginsWith f.reports p.reports
  pub output : BeginsWith f.output p.output

-- a finished run, as a partial one of all its rounds
abbrev pub all_rounds : Finished → Partial
all_rounds f = record { history = f.history; reports = f.reports; output = f.output }

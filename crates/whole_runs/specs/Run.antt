-- A finished run of an executable, whether its threads were stepped one at a time or ran at once.
use Rattle.std.specs.Prelude.{◌≡◌, ℕ, Bool, List, All, Option}
use Rattle.run_record.specs.declared.limits.Limits.{Limits}
use Rattle.run_record.specs.declared.plan.Turn.{Turn}
use Rattle.run_record.specs.declared.finished.Finished.{Finished}
use Rattle.elf_image.specs.File.{granule_of, granule_address}
use Rattle.run_laws.specs.Moments.{moments}
use Rattle.run_laws.specs.Faithful.{Mode, state_after}
use Rattle.run_laws.specs.Lawful.{IsLawful, IsWholeRun}
use Rattle.run_laws.specs.Reports.{Kept, AreReports}
use Rattle.report_laws.specs.Races.{StandsForRace}
use Rattle.machine_laws.specs.Machine.{bare_of}

-- what was reported, and how many races were suppressed and how many equal to a report
abbrev pub kept_in : Finished → Kept
kept_in f = record { reports = f.reports; suppressed = f.suppressed; equal = f.equal }

-- What is kept is a run of the file in that mode, by the limits, and by the plan where threads are stepped one at
-- a time, with rules that two stacks may meet. Its history is lawful and that of a whole run, which came to that
-- last state. Its reports are those of the history, and each stands for a race: two accesses that conflict, neither
-- of which happens before the other, and the first of which isn't earlier than the second. Its output is that of
-- the bare machine over the history's instructions.
pub record IsRun
    (mode : Mode) (file : List ℕ) (limits : Limits) (plan : List Turn)
    (meets : Option (List ℕ) → Option (List ℕ) → Bool) (f : Finished) : Type 0 where
  pub lawful : IsLawful mode limits plan (bare_of file limits.harts) (granule_of file) f.history.entries
  pub whole : IsWholeRun mode limits plan (bare_of file limits.harts) f.history.entries f.last
  pub reports : AreReports limits (granule_address file) meets (moments f.history.entries) (kept_in f)
  pub races :
      All (StandsForRace limits.epochs (granule_of file) (granule_address file) (moments f.history.entries)) f.reports
  pub output : f.output ≡ (state_after (bare_of file limits.harts) f.history.entries).output

-- What of a run is put on its two sinks: its output on one, the texts of its reports and the summary on the other.
use Rattle.std.specs.Prelude.{◌≡◌, ◌≤◌, ◌⊎◌, ℕ, Bool, List, ◌++◌, take, Option, Result, Ok, Err}
use Rattle.std.specs.List.{flat_map}
use Rattle.run_record.specs.declared.limits.Limits.{Limits}
use Rattle.run_record.specs.declared.plan.Turn.{Turn}
use Rattle.run_record.specs.declared.report.Report.{Report}
use Rattle.run_record.specs.declared.finished.Finished.{Finished}
use Rattle.run_laws.specs.Faithful.{Mode}
use Rattle.symbol_lines.specs.FrameTexts.{FrameText}
use Rattle.report_text.specs.Texts.{report_text, summary_of}
use Rattle.tool_ports.specs.Ports.{Rose, Appends, AppendsPart}
use Rattle.whole_runs.specs.Run.{IsRun}
use Rattle.partial_runs.specs.declared.partial.Partial.{Partial}
use Rattle.partial_runs.specs.declared.partial.RunFault.{RunFault}
use Rattle.partial_runs.specs.declared.partial.RunFault.TheVariants.{Write, NoMemory}
use Rattle.partial_runs.specs.Starts.{BeginsWith, GoesOnByRound}
use Rattle.partial_runs.specs.Partials.{IsPartial, all_rounds}

-- What is run: the mode, the file, limits, plan and rules; and the names that code places have in texts.
pub record Job : Type 0 where
  pub mode : Mode
  pub file : List ℕ
  pub limits : Limits
  pub plan : List Turn
  pub meets : Option (List ℕ) → Option (List ℕ) → Bool
  pub frame_of : ℕ → FrameText

-- a run of the job
abbrev pub IsRunOf : Job → Finished → Type 0
IsRunOf job f = IsRun job.mode job.file job.limits job.plan job.meets f

-- a partial run of the job
abbrev pub IsPartialOf : Job → Partial → Type 0
IsPartialOf job p = IsPartial job.mode job.file job.limits job.plan job.meets p

-- The two sinks at some time: the bytes that each tells, and how many of its puts have failed.
pub record Sinks : Type 0 where
  pub out : Option (List ℕ)
  pub err : Option (List ℕ)
  pub out_faults : ℕ
  pub err_faults : ℕ

-- the texts of reports, one after another
abbrev pub texts_of : Job → List Report → List ℕ
texts_of job reports = flat_map (report_text job.frame_of) reports

-- the text of a finished run: the texts of its reports, then the summary
abbrev pub run_text : Job → Finished → List ℕ
run_text job f = texts_of job f.reports ++ summary_of f

-- the text of a partial run: the texts of its reports, and the summary only where it is all of a run
abbrev pub IsTextOf : Job → Partial → List ℕ → Type 0
IsTextOf job p text =
    (text ≡ texts_of job p.reports) ⊎ ((f : Finished) × IsRunOf job f × (p ≡ all_rounds f) × (text ≡ run_text job f))

-- All of the finished run was put.
pub record IsPut (job : Job) (f : Finished) (before now : Sinks) : Type 0 where
  pub out : Appends before.out now.out f.output
  pub err : Appends before.err now.err (run_text job f)

-- All of the partial run was put, the output of each round and the texts of its reports. No count of failures fell.
pub record IsPutSoFar (job : Job) (p : Partial) (before now : Sinks) : Type 0 where
  pub out : Appends before.out now.out p.output
  pub err : Appends before.err now.err (texts_of job p.reports)
  pub out_count : before.out_faults ≤ now.out_faults
  pub err_count : before.err_faults ≤ now.err_faults

-- Of the partial run a first part was put on each sink.
pub record IsPartPut (job : Job) (p : Partial) (before now : Sinks) : Type 0 where
  pub out : AppendsPart before.out now.out p.output
  pub text : List ℕ
  pub text_of : IsTextOf job p text
  pub err : AppendsPart before.err now.err text

-- The put of the last round's output failed: all of the rounds before was put, and no text of the last round.
pub record IsCutInOutput (job : Job) (p : Partial) (before now : Sinks) : Type 0 where
  pub earlier : Partial
  pub earlier_is : IsPartialOf job earlier
  pub last_round : GoesOnByRound earlier.history.entries p.history.entries
  pub output : List ℕ
  pub output_is : p.output ≡ earlier.output ++ output
  pub taken : ℕ
  pub out : Appends before.out now.out (earlier.output ++ take taken output)
  pub err : Appends before.err now.err (texts_of job earlier.reports)
  pub rose : Rose before.out_faults now.out_faults

-- The put of a text failed: all of the output was put.
pub record IsCutInTexts (job : Job) (p : Partial) (before now : Sinks) : Type 0 where
  pub out : Appends before.out now.out p.output
  pub text : List ℕ
  pub text_of : IsTextOf job p text
  pub err : AppendsPart before.err now.err text
  pub rose : Rose before.err_faults now.err_faults

-- A put failed, and nothing more was put.
pub record IsCutShort (job : Job) (p : Partial) (before now : Sinks) : Type 0 where
  pub partial : IsPartialOf job p
  pub put : IsCutInOutput job p before now ⊎ IsCutInTexts job p before now

-- Memory ran out: all of the output was put, with the whole texts of the first reports, or of all, and nothing more.
pub record IsStopped (job : Job) (p : Partial) (before now : Sinks) : Type 0 where
  pub partial : IsPartialOf job p
  pub out : Appends before.out now.out p.output
  pub told : List Report
  pub told_first : BeginsWith p.reports told
  pub err : Appends before.err now.err (texts_of job told)

-- What a call that runs the job and puts what it tells leaves on the sinks, by its answer.
abbrev pub LeavesRun : Job → Sinks → Sinks → Result Finished RunFault → Type 0
LeavesRun job before now (Ok f) = IsRunOf job f × IsPut job f before now
LeavesRun job before now (Err (Write p)) = IsCutShort job p before now
LeavesRun job before now (Err (NoMemory p)) = IsStopped job p before now

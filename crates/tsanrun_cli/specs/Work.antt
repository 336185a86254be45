-- A run before it is written.
use Rattle.std.specs.Prelude.{◌≡◌, ℕ, false, List, [], ◌++◌, Option, Some, Result, Ok, Err, map, string_bytes, if◌then◌else◌}
use Rattle.std.specs.List.{flat_map}
use Rattle.std.specs.declared.string.String.{String}
use Rattle.std.specs.declared.vec.Vec.{Vec}
use Rattle.std.specs.declared.alloc.Global.{Global}
use Rattle.tool_ports.specs.Ports.{Rose}
use Rattle.command_words.specs.declared.request.UsageFault.{UsageFault}
use Rattle.command_words.specs.Requests.{RequestText, request_of}
use Rattle.elf_image.specs.File.{image_of}
use Rattle.run_record.specs.declared.finished.Finished.{Finished}
use Rattle.symbol_lines.specs.Frames.{Tables, frame_in}
use Rattle.report_text.specs.Texts.{report_text, summary_of}
use Rattle.report_text.specs.Status.{status_of}
use Rattle.suppress_rules.specs.declared.rule.Rule.{Rule}
use Rattle.suppress_rules.specs.RuleFile.{rules_of}
use Rattle.whole_runs.specs.Run.{IsRun}
use Rattle.tsanrun_cli.specs.declared.work.Told.{Told}
use Rattle.tsanrun_cli.specs.declared.ended.End.{End}
use Rattle.tsanrun_cli.specs.declared.ended.End.TheVariants.{Done, Usage, Elf, Rules, FileTooLong, ReadFault, WriteFault, NoMemory}
use Rattle.tsanrun_cli.specs.Ends.{Call, served, HasShortFile, HasLongFile, AreRules, IsRunOf, mode_of, suppressed_by}
use Rattle.tsanrun_cli.specs.Texts.{Tells, is_alone}

-- a call of the commands that wait for nobody
abbrev pub call_of : List (String Global) → Option (List (List ℕ × List ℕ)) → ℕ → ℕ → List ℕ → Call
call_of words told before after failed = record { asked = served (request_of (map string_bytes words)); told = told; reads_before = before; reads_after = after; failed = failed }

-- a call of all commands
abbrev pub whole_call_of : List (String Global) → Option (List (List ℕ × List ℕ)) → ℕ → ℕ → List ℕ → Call
whole_call_of words told before after failed = record { asked = request_of (map string_bytes words); told = told; reads_before = before; reads_after = after; failed = failed }

-- a call whose words ask for that
abbrev pub asking : RequestText → Option (List (List ℕ × List ℕ)) → ℕ → ℕ → List ℕ → Call
asking request told before after failed = record { asked = Ok request; told = told; reads_before = before; reads_after = after; failed = failed }

-- the bytes of texts
abbrev pub bytes_of : Vec ℕ Global → List ℕ
bytes_of text = text.items

-- the pieces that go to the output, and those that go to the other sink, put together
abbrev pub out_bytes : Told → List ℕ
out_bytes t = if t.alone then flat_map bytes_of t.texts.items else t.finished.output

abbrev pub err_bytes : Told → List ℕ
err_bytes t = if t.alone then [] else flat_map bytes_of t.texts.items

-- a run that the call serves, and what tells of it
pub record HasRun (call : Call) (t : Told) : Type 0 where
  pub request : RequestText
  pub bytes : List ℕ
  pub run : IsRunOf call request bytes t.finished
  pub tells : Tells request.task bytes t.finished (flat_map bytes_of t.texts.items) t.status
  pub alone_is : t.alone ≡ is_alone request.task

-- the run of an executable by the request, and what tells of it
pub record IsTold (request : RequestText) (bytes : List ℕ) (rules : List Rule) (t : Told) : Type 0 where
  pub run : IsRun (mode_of request.task) bytes request.limits request.plan (suppressed_by rules bytes) t.finished
  pub tells : Tells request.task bytes t.finished (flat_map bytes_of t.texts.items) t.status
  pub alone_is : t.alone ≡ is_alone request.task

-- why nothing is asked for
abbrev pub IsUnasked : Result RequestText UsageFault → End → Type 0
IsUnasked asked (Usage fault) = asked ≡ Err fault
IsUnasked asked NoMemory = Unit {0}
IsUnasked asked Done = ⊥
IsUnasked asked (Elf fault) = ⊥
IsUnasked asked (Rules fault) = ⊥
IsUnasked asked FileTooLong = ⊥
IsUnasked asked ReadFault = ⊥
IsUnasked asked WriteFault = ⊥

-- why the loader refuses these bytes
abbrev pub IsUnaccepted : List ℕ → End → Type 0
IsUnaccepted bytes (Elf fault) = image_of bytes ≡ Err fault
IsUnaccepted bytes NoMemory = Unit {0}
IsUnaccepted bytes Done = ⊥
IsUnaccepted bytes (Usage fault) = ⊥
IsUnaccepted bytes (Rules fault) = ⊥
IsUnaccepted bytes FileTooLong = ⊥
IsUnaccepted bytes ReadFault = ⊥
IsUnaccepted bytes WriteFault = ⊥

-- the run and the texts of its reports, with the names that the tables tell
pub record AreReportsTold (tables : Tables) (f : Finished) (t : Told) : Type 0 where
  pub finished_is : t.finished ≡ f
  pub text_is : flat_map bytes_of t.texts.items ≡ flat_map (report_text (frame_in tables)) f.reports ++ summary_of f
  pub status_is : t.status ≡ status_of f
  pub alone_is : t.alone ≡ false

-- ---- reads

-- the counts of reads are as they were
abbrev pub Stays : ℕ → ℕ → List ℕ → List ℕ → Type 0
Stays before now old new = (now ≡ before) × (new ≡ old)

-- what a read of the named file may answer, by what the files tell and by the counts before and after
abbrev pub IsRead : Option (List (List ℕ × List ℕ)) → List ℕ → ℕ → ℕ → List ℕ → List ℕ → Result (Vec ℕ Global) End → Type 0
IsRead told name before now old new (Ok bytes) = HasShortFile told name bytes.items × Stays before now old new
IsRead told name before now old new (Err FileTooLong) = HasLongFile told name × Stays before now old new
IsRead told name before now old new (Err ReadFault) = Rose before now × (new ≡ name)
IsRead told name before now old new (Err NoMemory) = Unit {0}
IsRead told name before now old new (Err Done) = ⊥
IsRead told name before now old new (Err (Usage fault)) = ⊥
IsRead told name before now old new (Err (Elf fault)) = ⊥
IsRead told name before now old new (Err (Rules fault)) = ⊥
IsRead told name before now old new (Err WriteFault) = ⊥

-- what a read of rules may answer, where a file is named or none
abbrev pub AreRulesRead : Option (List (List ℕ × List ℕ)) → Option (List ℕ) → ℕ → ℕ → List ℕ → List ℕ → Result (List Rule) End → Type 0
AreRulesRead told named before now old new (Ok rules) = AreRules told named rules × Stays before now old new
AreRulesRead told named before now old new (Err (Rules fault)) = (name : List ℕ) × (named ≡ Some name) × ((text : List ℕ) × HasShortFile told name text × (rules_of text ≡ Err fault))
AreRulesRead told named before now old new (Err FileTooLong) = (name : List ℕ) × (named ≡ Some name) × HasLongFile told name
AreRulesRead told named before now old new (Err ReadFault) = Rose before now × (named ≡ Some new)
AreRulesRead told named before now old new (Err NoMemory) = Unit {0}
AreRulesRead told named before now old new (Err Done) = ⊥
AreRulesRead told named before now old new (Err (Usage fault)) = ⊥
AreRulesRead told named before now old new (Err (Elf fault)) = ⊥
AreRulesRead told named before now old new (Err WriteFault) = ⊥

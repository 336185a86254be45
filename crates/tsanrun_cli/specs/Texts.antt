-- What is written.
use Rattle.std.specs.Prelude.{◌≡◌, ℕ, Bool, true, false, List, [], ◌++◌, codes, length, nat_lt, if◌then◌else◌}
use Rattle.std.specs.List.{flat_map}
use Rattle.std.specs.Fmt.{decimal}
use Rattle.run_record.specs.declared.finished.Finished.{Finished}
use Rattle.elf_image.specs.declared.fault.ElfFault.{ElfFault}
use Rattle.elf_image.specs.declared.fault.ElfFault.TheVariants as faults
use Rattle.elf_image.specs.File.{granule_of}
use Rattle.command_words.specs.declared.request.Search.{Search}
use Rattle.command_words.specs.declared.request.Search.TheVariants.{Locks, Pairs}
use Rattle.command_words.specs.Requests.{TaskText, run, step, search, generate}
use Rattle.symbol_lines.specs.Frames.{tables_of, frame_in}
use Rattle.suppress_rules.specs.declared.fault.RuleFault.{RuleFault}
use Rattle.suppress_rules.specs.declared.fault.RuleFault.TheVariants as rules
use Rattle.report_text.specs.Texts.{report_text, summary_of}
use Rattle.report_text.specs.Status.{status_of, end_status}
use Rattle.run_laws.specs.Moments.{moments}
use Rattle.lock_order.specs.Texts.{IsLockText}
use Rattle.offline_audit.specs.Texts.{IsPairText}
use Rattle.tsanrun_cli.specs.declared.ended.End.{End}
use Rattle.tsanrun_cli.specs.declared.ended.End.TheVariants.{Done, Usage, Elf, Rules, FileTooLong, ReadFault, WriteFault, NoMemory}

-- the line of a made program of so many bytes
abbrev pub made_line : ℕ → ℕ → ℕ → List ℕ
made_line seed size bytes = codes "gen: seed " ++ (decimal seed ++ (codes ", size " ++ (decimal size ++ (codes ", file " ++ (decimal bytes ++ codes " bytes\n")))))

-- what stands before the last line: for a file the text of each report in order, with the names that the executable's tables
-- tell, and for a made program its line; a search tells no report
abbrev pub before_summary : TaskText → List ℕ → Finished → List ℕ
before_summary (run file) bytes f = flat_map (report_text (frame_in (tables_of bytes))) f.reports
before_summary (step file) bytes f = flat_map (report_text (frame_in (tables_of bytes))) f.reports
before_summary (search what file) bytes f = []
before_summary (generate seed size) bytes f = made_line seed size (length bytes)

-- what tells of the run of an executable
abbrev pub text_of : TaskText → List ℕ → Finished → List ℕ
text_of task bytes f = before_summary task bytes f ++ summary_of f

-- The text and the status tell of a run by its reports.
pub record TellsReports (task : TaskText) (bytes : List ℕ) (f : Finished) (text : List ℕ) (status : ℕ) : Type 0 where
  pub text_is : text ≡ text_of task bytes f
  pub status_is : status ≡ status_of f

-- So much was found in the recorded run of an executable, and the text tells of it: the cycles in the order in which threads took
-- mutexes, or the pairs of code places that race, by the names that the executable's tables tell.
abbrev pub IsFound : Search → List ℕ → Finished → ℕ → List ℕ → Type 0
IsFound Locks bytes f count text = IsLockText (moments f.history.entries) count text
IsFound Pairs bytes f count text = IsPairText (granule_of bytes) (frame_in (tables_of bytes)) f.history.entries count text

-- The text and the status tell of a run by what was found in it. Where that is something the status is 66, and else that of the run's
-- end, whether or not there are reports.
pub record TellsFound (what : Search) (bytes : List ℕ) (f : Finished) (text : List ℕ) (status : ℕ) : Type 0 where
  pub count : ℕ
  pub found : IsFound what bytes f count text
  pub status_is : status ≡ (if nat_lt 0 count then 66 else end_status f.last.end)

-- the text and the status tell of the run of an executable, as the task has it
abbrev pub Tells : TaskText → List ℕ → Finished → List ℕ → ℕ → Type 0
Tells (run file) bytes f text status = TellsReports (run file) bytes f text status
Tells (step file) bytes f text status = TellsReports (step file) bytes f text status
Tells (search what file) bytes f text status = TellsFound what bytes f text status
Tells (generate seed size) bytes f text status = TellsReports (generate seed size) bytes f text status

-- what tells of the run is put on the output, alone: of a made program and of a search
abbrev pub is_alone : TaskText → Bool
is_alone (run file) = false
is_alone (step file) = false
is_alone (search what file) = true
is_alone (generate seed size) = true

-- what is put on the output: what the guest put, or the text that tells of the run
abbrev pub out_text : TaskText → List ℕ → Finished → List ℕ
out_text task text f = if is_alone task then text else f.output

-- what is put on the other sink
abbrev pub err_text : TaskText → List ℕ → List ℕ
err_text task text = if is_alone task then [] else text

-- the faults of an executable by number and name
abbrev pub executable_line : ElfFault → List ℕ
executable_line faults.NotElf = codes "tsanrun: executable fault 1: NotElf\n"
executable_line faults.NotLittle64 = codes "tsanrun: executable fault 2: NotLittle64\n"
executable_line faults.NotExecutable = codes "tsanrun: executable fault 3: NotExecutable\n"
executable_line faults.NotRiscv = codes "tsanrun: executable fault 4: NotRiscv\n"
executable_line faults.Compressed = codes "tsanrun: executable fault 5: Compressed\n"
executable_line faults.BadTable = codes "tsanrun: executable fault 6: BadTable\n"
executable_line faults.NoSegments = codes "tsanrun: executable fault 7: NoSegments\n"
executable_line faults.SegmentOutside = codes "tsanrun: executable fault 8: SegmentOutside\n"
executable_line faults.SegmentSizes = codes "tsanrun: executable fault 9: SegmentSizes\n"
executable_line faults.Overlap = codes "tsanrun: executable fault 10: Overlap\n"
executable_line faults.TooMuchMemory = codes "tsanrun: executable fault 11: TooMuchMemory\n"
executable_line faults.EntryOutside = codes "tsanrun: executable fault 12: EntryOutside\n"
executable_line faults.NoMemory = codes "tsanrun: out of memory\n"

-- the faults of rules by number and line
abbrev pub rules_line : RuleFault → List ℕ
rules_line (rules.NoColon line) = codes "tsanrun: rules fault 1 in line " ++ (decimal line ++ codes "\n")
rules_line (rules.UnknownType line) = codes "tsanrun: rules fault 2 in line " ++ (decimal line ++ codes "\n")
rules_line rules.NotUtf8 = codes "tsanrun: rules fault 3 in line 0\n"
rules_line rules.NoMemory = codes "tsanrun: out of memory\n"

abbrev pub refusal_line : End → List ℕ
refusal_line Done = []
refusal_line WriteFault = []
refusal_line (Usage fault) = codes "usage: tsanrun run|step FILE [options] or tsanrun gen [options]\n"
refusal_line (Elf fault) = executable_line fault
refusal_line (Rules fault) = rules_line fault
refusal_line FileTooLong = codes "tsanrun: file too long\n"
refusal_line ReadFault = codes "tsanrun: read failed\n"
refusal_line NoMemory = codes "tsanrun: out of memory\n"

-- a fault of the rules
abbrev pub is_rules : End → Bool
is_rules (Rules fault) = true
is_rules _ = false

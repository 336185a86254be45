-- How a call of the tool may end, and what it then has done.
use Rattle.std.specs.Prelude.{◌≡◌, ◌<◌, ◌≤◌, ◌⊎◌, ℕ, Bool, true, false, List, [], length, nat_lt, if◌then◌else◌, Option, Some, None, Result, Ok, Err, IfSome, option_and_then}
use Rattle.std.specs.declared.io.ErrorKind.{ErrorKind}
use Rattle.std.specs.declared.io.ErrorKind.TheVariants.{OutOfMemory}
use Rattle.tool_ports.specs.Ports.{Rose, HasFile, Appends, AppendsPart, file_named}
use Rattle.elf_image.specs.declared.fault.ElfFault.{ElfFault}
use Rattle.elf_image.specs.File.{image_of}
use Rattle.command_words.specs.declared.request.UsageFault.{UsageFault}
use Rattle.command_words.specs.declared.request.UsageFault.TheVariants as usage
use Rattle.command_words.specs.Requests.{TaskText, run, step, search, generate, RequestText}
use Rattle.gen_program.specs.Program.{program}
use Rattle.symbol_lines.specs.Frames.{tables_of, frame_in}
use Rattle.suppress_rules.specs.declared.rule.Rule.{Rule}
use Rattle.suppress_rules.specs.declared.fault.RuleFault.{RuleFault}
use Rattle.suppress_rules.specs.RuleFile.{rules_of}
use Rattle.suppress_rules.specs.Stacks.{first_met, places_of}
use Rattle.report_text.specs.Offers.{is_met}
use Rattle.run_laws.specs.Faithful.{Mode, OneByOne, AtOnce}
use Rattle.whole_runs.specs.Run.{IsRun}
use Rattle.run_record.specs.declared.finished.Finished.{Finished}
use Rattle.tsanrun_cli.specs.declared.ended.End.{End}
use Rattle.tsanrun_cli.specs.declared.ended.End.TheVariants.{Done, Usage, Elf, Rules, FileTooLong, ReadFault, WriteFault, NoMemory}
use Rattle.tsanrun_cli.specs.Texts.{Tells, out_text, err_text}

-- the greatest length of an executable and of a file of rules
abbrev pub file_limit : ℕ
file_limit = 25165824

-- Where nobody is waited for, threads can't run at once: the command `run` is refused as no command.
abbrev pub one_by_one : RequestText → TaskText → Result RequestText UsageFault
one_by_one request (run file) = Err usage.Command
one_by_one request (step file) = Ok request
one_by_one request (search what file) = Ok request
one_by_one request (generate seed size) = Ok request

-- what is served where nobody is waited for
abbrev pub served : Result RequestText UsageFault → Result RequestText UsageFault
served (Err fault) = Err fault
served (Ok request) = one_by_one request request.task

-- What a call was given, and its counts before and after.
pub record Call : Type 0 where
  -- what the words ask for, or why they are refused
  pub asked : Result RequestText UsageFault
  -- what the files tell
  pub told : Option (List (List ℕ × List ℕ))
  pub reads_before : ℕ
  pub reads_after : ℕ
  -- the name of the last read that failed
  pub failed : List ℕ

-- ---- what a call reads

-- The named file has these bytes, where files are told. They are within the limit.
pub record HasShortFile (told : Option (List (List ℕ × List ℕ))) (name bytes : List ℕ) : Type 0 where
  pub has : HasFile told name bytes
  pub fits : length bytes ≤ file_limit

-- the named file passes the limit, where files are told
pub record HasLongFile (told : Option (List (List ℕ × List ℕ))) (name : List ℕ) : Type 0 where
  pub bytes : List ℕ
  pub has : HasFile told name bytes
  pub passes : IfSome told (λ files. file_limit < length bytes)

-- the executable that a task names; a made program has no file
abbrev pub named_executable : TaskText → Option (List ℕ)
named_executable (run file) = Some file
named_executable (step file) = Some file
named_executable (search what file) = Some file
named_executable (generate seed size) = None

-- the words ask to run that file, with its threads at once or one at a time
pub record AsksToExecute (call : Call) (request : RequestText) (file : List ℕ) : Type 0 where
  pub asked : call.asked ≡ Ok request
  pub names : named_executable request.task ≡ Some file

-- they do, and the file is an executable that the loader accepts
pub record ExecutesAccepted (call : Call) (request : RequestText) (file bytes : List ℕ) : Type 0 where
  pub asks : AsksToExecute call request file
  pub executable : HasShortFile call.told file bytes
  pub accepted : image_of bytes ≡ Ok bytes

-- ---- what a call runs

-- whether a task runs the threads at once, or one at a time
abbrev pub mode_of : TaskText → Mode
mode_of (run file) = AtOnce
mode_of (step file) = OneByOne
mode_of (search what file) = OneByOne
mode_of (generate seed size) = OneByOne

-- the executable of a task: the named file's bytes, or those of the made program
abbrev pub IsExecutable : Option (List (List ℕ × List ℕ)) → TaskText → List ℕ → Type 0
IsExecutable told (run file) bytes = HasShortFile told file bytes
IsExecutable told (step file) bytes = HasShortFile told file bytes
IsExecutable told (search what file) bytes = HasShortFile told file bytes
IsExecutable told (generate seed size) bytes = bytes ≡ program seed size

-- the name of the file of rules that a task reads: a made program is run without rules
abbrev pub rules_file : TaskText → Option (List ℕ) → Option (List ℕ)
rules_file (run file) name = name
rules_file (step file) name = name
rules_file (search what file) name = name
rules_file (generate seed size) name = None

-- the rules of the named file, and none without one
abbrev pub AreRules : Option (List (List ℕ × List ℕ)) → Option (List ℕ) → List Rule → Type 0
AreRules told None rules = rules ≡ []
AreRules told (Some name) rules = (bytes : List ℕ) × HasShortFile told name bytes × (rules_of bytes ≡ Ok rules)

-- The call runs that request, over that executable and with those rules.
pub record Serves (call : Call) (request : RequestText) (bytes : List ℕ) (rules : List Rule) : Type 0 where
  pub asked : call.asked ≡ Ok request
  pub executable : IsExecutable call.told request.task bytes
  pub accepted : image_of bytes ≡ Ok bytes
  pub rules_are : AreRules call.told (rules_file request.task request.suppressions) rules

-- two stacks meet some rule, by the names that the executable's tables tell
abbrev pub suppressed_by : List Rule → List ℕ → Option (List ℕ) → Option (List ℕ) → Bool
suppressed_by rules bytes = is_met (λ mine previous. first_met rules (frame_in (tables_of bytes)) (places_of mine) (places_of previous))

-- What is kept is a run that the call serves, in its mode, by its limits and its plan. Each of its reports stands
-- for a race.
pub record IsRunOf (call : Call) (request : RequestText) (bytes : List ℕ) (f : Finished) : Type 0 where
  pub rules : List Rule
  pub serves : Serves call request bytes rules
  pub is_run : IsRun (mode_of request.task) bytes request.limits request.plan (suppressed_by rules bytes) f

-- ---- why a call ends so

pub record HasElfFault (call : Call) (fault : ElfFault) : Type 0 where
  pub request : RequestText
  pub file : List ℕ
  pub asks : AsksToExecute call request file
  pub bytes : List ℕ
  pub executable : HasShortFile call.told file bytes
  pub refused : image_of bytes ≡ Err fault

-- the executable is too long
pub record HasLongExecutable (call : Call) : Type 0 where
  pub request : RequestText
  pub file : List ℕ
  pub asks : AsksToExecute call request file
  pub long : HasLongFile call.told file

-- the executable is accepted, and the file of rules is too long
pub record HasLongRules (call : Call) : Type 0 where
  pub request : RequestText
  pub file : List ℕ
  pub bytes : List ℕ
  pub executes : ExecutesAccepted call request file bytes
  pub name : List ℕ
  pub named : request.suppressions ≡ Some name
  pub long : HasLongFile call.told name

-- the executable is accepted, and the file of rules has the fault
pub record HasRuleFault (call : Call) (fault : RuleFault) : Type 0 where
  pub request : RequestText
  pub file : List ℕ
  pub bytes : List ℕ
  pub executes : ExecutesAccepted call request file bytes
  pub name : List ℕ
  pub named : request.suppressions ≡ Some name
  pub text : List ℕ
  pub rules : HasShortFile call.told name text
  pub refused : rules_of text ≡ Err fault

-- the last read that failed was of the executable
pub record HasUnreadExecutable (call : Call) : Type 0 where
  pub request : RequestText
  pub file : List ℕ
  pub asks : AsksToExecute call request file
  pub failed : call.failed ≡ file

-- the executable is accepted, and the last read that failed was of the file of rules
pub record HasUnreadRules (call : Call) : Type 0 where
  pub request : RequestText
  pub file : List ℕ
  pub bytes : List ℕ
  pub executes : ExecutesAccepted call request file bytes
  pub named : request.suppressions ≡ Some call.failed

-- a read failed that had its turn
pub record HasReadFault (call : Call) : Type 0 where
  pub rose : Rose call.reads_before call.reads_after
  pub unread : HasUnreadExecutable call ⊎ HasUnreadRules call

-- some executable and rules are served
pub record ServesSome (call : Call) : Type 0 where
  pub request : RequestText
  pub bytes : List ℕ
  pub rules : List Rule
  pub serves : Serves call request bytes rules

-- why a call is refused before anything is written
abbrev pub Refuses : Call → End → Type 0
Refuses call (Usage fault) = call.asked ≡ Err fault
Refuses call (Elf fault) = HasElfFault call fault
Refuses call (Rules fault) = HasRuleFault call fault
Refuses call FileTooLong = HasLongExecutable call ⊎ HasLongRules call
Refuses call ReadFault = HasReadFault call
Refuses call NoMemory = Unit {0}
Refuses call WriteFault = ⊥
Refuses call Done = ⊥

-- why a call ends so
abbrev pub IsCause : Call → ℕ → ℕ → ℕ → ℕ → End → Type 0
IsCause call out_before out_after err_before err_after WriteFault = Rose out_before out_after ⊎ Rose err_before err_after
IsCause call out_before out_after err_before err_after Done = ServesSome call
IsCause call out_before out_after err_before err_after end = Refuses call end

abbrev pub refusal_status : End → ℕ
refusal_status Done = 0
refusal_status (Usage fault) = 2
refusal_status (Elf fault) = 3
refusal_status FileTooLong = 3
refusal_status (Rules fault) = 4
refusal_status ReadFault = 5
refusal_status WriteFault = 6
refusal_status NoMemory = 7

-- How a call ends whose words can't be read: memory ran out, or one isn't UTF-8, which is a faulty command line.
abbrev pub unread_words_end : ErrorKind → End
unread_words_end OutOfMemory = NoMemory
unread_words_end _ = Usage usage.Words

-- the ends that leave the output as it was and tell one line
abbrev pub is_refusal : End → Bool
is_refusal Done = false
is_refusal WriteFault = false
is_refusal _ = true

-- ---- what a call has done

-- what a call that is done has left
pub record IsDone (call : Call) (out_old out_new err_old err_new : Option (List ℕ)) (status : ℕ) (f : Finished) : Type 0 where
  pub request : RequestText
  pub bytes : List ℕ
  pub run : IsRunOf call request bytes f
  pub told : List ℕ
  pub tells : Tells request.task bytes f told status
  pub output : Appends out_old out_new (out_text request.task told f)
  pub text : Appends err_old err_new (err_text request.task told)

-- What a call has left whose writing failed: of some run that it serves, a part of what goes to the output and nothing else, or all of that
-- and a part of what goes to the other sink.
pub record IsCutOff (call : Call) (out_old out_new err_old err_new : Option (List ℕ)) : Type 0 where
  pub request : RequestText
  pub bytes : List ℕ
  pub finished : Finished
  pub run : IsRunOf call request bytes finished
  pub told : List ℕ
  pub status : ℕ
  pub tells : Tells request.task bytes finished told status
  pub written :
      (AppendsPart out_old out_new (out_text request.task told finished) × (err_new ≡ err_old))
      ⊎ (Appends out_old out_new (out_text request.task told finished) × AppendsPart err_old err_new (err_text request.task told))

-- ---- how a call is to end

-- by what was read in the file of rules
abbrev pub rules_end : Result (List Rule) RuleFault → End
rules_end (Ok rules) = Done
rules_end (Err fault) = Rules fault

-- by the bytes of the file of rules
abbrev pub end_by_rules : List ℕ → Option End
end_by_rules text = if nat_lt file_limit (length text) then Some FileTooLong else Some (rules_end (rules_of text))

-- by the name of the file of rules; none where the file is missing
abbrev pub end_by_rules_file : List (List ℕ × List ℕ) → Option (List ℕ) → Option End
end_by_rules_file files None = Some Done
end_by_rules_file files (Some name) = option_and_then end_by_rules (file_named name files)

-- by the executable, and then by the file of rules
abbrev pub image_end : Option End → Result (List ℕ) ElfFault → Option End
image_end after (Ok image) = after
image_end after (Err fault) = Some (Elf fault)

abbrev pub end_by_executable : Option End → List ℕ → Option End
end_by_executable after bytes = if nat_lt file_limit (length bytes) then Some FileTooLong else image_end after (image_of bytes)

abbrev pub end_by_task : List (List ℕ × List ℕ) → Option (List ℕ) → TaskText → Option End
end_by_task files rules (run file) = option_and_then (end_by_executable (end_by_rules_file files rules)) (file_named file files)
end_by_task files rules (step file) = option_and_then (end_by_executable (end_by_rules_file files rules)) (file_named file files)
end_by_task files rules (search what file) = option_and_then (end_by_executable (end_by_rules_file files rules)) (file_named file files)
end_by_task files rules (generate seed size) = Some Done

-- How a call ends by what its words ask for and by what the files tell, where no read or put fails and memory doesn't run out. None where
-- a file that it reads is missing.
abbrev pub end_of : List (List ℕ × List ℕ) → Result RequestText UsageFault → Option End
end_of files (Err fault) = Some (Usage fault)
end_of files (Ok request) = end_by_task files request.suppressions request.task

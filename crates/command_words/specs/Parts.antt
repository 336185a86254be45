-- What the parts of the code answer on the way to a request. No public clause cites these.
use Rattle.std.specs.Prelude.{ℕ, ◌≡◌, ◌⊎◌, Bool, false, not, List, Option, Some, None, Result, Ok, Err, if◌then◌else◌}
use Rattle.clap.specs.Walk.{Row}
use Rattle.command_words.specs.Requests.{TaskText, generate, has_command, has_right_file, run, step, search, task_with}
use Rattle.command_words.specs.declared.reader.Work.{Work}
use Rattle.command_words.specs.declared.reader.Work.TheVariants as work
use Rattle.command_words.specs.declared.request.Refusal.{Refusal}
use Rattle.command_words.specs.declared.request.Refusal.TheVariants.{Usage, NoMemory}
use Rattle.command_words.specs.declared.request.UsageFault.{UsageFault}
use Rattle.command_words.specs.declared.request.UsageFault.TheVariants as fault

-- the task of some work with these numbers
abbrev pub work_task : Work → ℕ → ℕ → TaskText
work_task (work.Run file) _ _ = run file.now
work_task (work.Step file) _ _ = step file.now
work_task (work.Search what file) _ _ = search what file.now
work_task work.Generate s z = generate s z

-- the first fault of the command and its file
unfoldable pub work_fault : List Row → Option UsageFault
work_fault rows = if not (has_command rows) then Some fault.Command
    else (if not (has_right_file rows) then Some fault.File else None)

-- the work is what the command does with its file, or they have this first fault
abbrev pub Works : List Row → Result Work UsageFault → Type 0
Works rows (Ok w) = (work_fault rows ≡ None) × ((s z : ℕ) → work_task w s z ≡ task_with rows s z)
Works rows (Err f) = work_fault rows ≡ Some f

-- memory ran out, or the test fails, which is this fault
abbrev pub IsRefusal : UsageFault → Bool → Refusal → Type 0
IsRefusal f test refusal = (refusal ≡ NoMemory) ⊎ ((refusal ≡ Usage f) × (test ≡ false))

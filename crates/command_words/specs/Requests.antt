-- What the words of the command line ask for, or why they are refused.
use Rattle.std.specs.Prelude.{ℕ, ◌≡◌, ◌≤◌, ◌||◌, Bool, true, false, not, List, [], Option, Some, None, Result, Ok, Err, All, codes, is_some, length, nat_lt, unwrap_or, option_map, if◌then◌else◌}
use Rattle.std.specs.Option.{option_map_or}
use Rattle.std.specs.Str.{bytes_eq}
use Rattle.clap.specs.Walk.{Row, Text}
use Rattle.run_record.specs.declared.limits.Limits.{Limits}
use Rattle.run_record.specs.declared.plan.Turn.{Turn}
use Rattle.command_words.specs.Command.{is_taken, matches}
use Rattle.command_words.specs.Numbers.{given, harts, has_numbers, limits_in, number, seed, size, slots}
use Rattle.command_words.specs.Plans.{is_plan, turns_of}
use Rattle.command_words.specs.declared.request.Refusal.{Refusal}
use Rattle.command_words.specs.declared.request.Refusal.TheVariants.{Usage, NoMemory}
use Rattle.command_words.specs.declared.request.Request.{Request}
use Rattle.command_words.specs.declared.request.Search.{Search}
use Rattle.command_words.specs.declared.request.Search.TheVariants.{Locks, Pairs}
use Rattle.command_words.specs.declared.request.Task.{Task}
use Rattle.command_words.specs.declared.request.Task.TheVariants as task
use Rattle.command_words.specs.declared.request.UsageFault.{UsageFault}
use Rattle.command_words.specs.declared.request.UsageFault.TheVariants as fault

-- what is to be done, with the file's name as text
pub data TaskText : Type 0 where
  run : Text → TaskText
  step : Text → TaskText
  search : Search → Text → TaskText
  generate : ℕ → ℕ → TaskText

-- a request with its names as texts
pub record RequestText : Type 0 where
  pub task : TaskText
  pub limits : Limits
  pub plan : List Turn
  pub suppressions : Option Text

-- a task with its file's name as text
abbrev pub task_text : Task → TaskText
task_text (task.Run file) = run file.now
task_text (task.Step file) = step file.now
task_text (task.Search what file) = search what file.now
task_text (task.Generate s z) = generate s z

-- a request of the code with its names as texts
abbrev pub request_text : Request → RequestText
request_text request = record {
  task = task_text request.task;
  limits = request.limits;
  plan = request.plan;
  suppressions = option_map (λ name. name.now) request.suppressions;
}

-- the command is the one of this name
abbrev pub is_command : List Row → Text → Bool
is_command rows name = option_map_or (λ word. bytes_eq word name) (given rows (codes "command")) false

-- what the command looks for in a recorded run, if it looks for something
abbrev pub search_in : List Row → Option Search
search_in rows = if is_command rows (codes "locks") then Some Locks else (if is_command rows (codes "audit") then Some Pairs else None)

-- the command runs a file
abbrev pub runs_file : List Row → Bool
runs_file rows = (is_command rows (codes "run") || is_command rows (codes "step")) || is_some (search_in rows)

-- the command is one of those that there are
abbrev pub has_command : List Row → Bool
has_command rows = runs_file rows || is_command rows (codes "gen")

-- the file's name, if there is one
abbrev pub file_in : List Row → Option Text
file_in rows = given rows (codes "file")

-- there is a file exactly where the command runs one
abbrev pub has_right_file : List Row → Bool
has_right_file rows = if runs_file rows then is_some (file_in rows) else not (is_some (file_in rows))

-- there is no plan, or its text is one
unfoldable pub has_plan : List Row → Bool
has_plan rows = option_map_or is_plan (given rows (codes "plan")) true

-- the turns of the plan, and none where there is no plan
unfoldable pub plan_in : List Row → List Turn
plan_in rows = option_map_or turns_of (given rows (codes "plan")) []

-- the first fault of what was read in the words
unfoldable pub fault_in : List Row → Option UsageFault
fault_in rows =
    if not (has_command rows) then Some fault.Command
    else (if not (has_right_file rows) then Some fault.File
    else (if not (has_numbers rows) then Some fault.Number
    else (if not (has_plan rows) then Some fault.Plan
    else (if nat_lt (number rows slots) (number rows harts) then Some fault.FewSlots
    else None))))

-- what is to be done, with these numbers for what makes an executable
unfoldable pub task_with : List Row → ℕ → ℕ → TaskText
task_with rows s z = if is_command rows (codes "run") then run (unwrap_or (file_in rows) [])
    else (if is_command rows (codes "step") then step (unwrap_or (file_in rows) [])
    else option_map_or (λ what. search what (unwrap_or (file_in rows) [])) (search_in rows) (generate s z))

-- what is asked for, where there is no fault
abbrev pub request_in : List Row → RequestText
request_in rows = record {
  task = task_with rows (number rows seed) (number rows size);
  limits = limits_in rows;
  plan = plan_in rows;
  suppressions = given rows (codes "suppressions");
}

-- the value, unless there is a fault
abbrev pub ok_unless : {A E : Type 0} → Option E → A → Result A E
ok_unless None value = Ok value
ok_unless (Some e) value = Err e

-- what was read in the words asks for this, or has this fault
unfoldable pub request_from : List Row → Result RequestText UsageFault
request_from rows = ok_unless (fault_in rows) (request_in rows)

-- the words ask for this, or have this first fault
unfoldable pub request_of : List Text → Result RequestText UsageFault
request_of words = if is_taken words then request_from (matches words) else Err fault.Words

-- an answer is the one that is wanted, unless memory ran out
abbrev pub Tells : Result RequestText UsageFault → Result Request Refusal → Type 0
Tells wanted (Ok request) = wanted ≡ Ok (request_text request)
Tells wanted (Err (Usage f)) = wanted ≡ Err f
Tells wanted (Err NoMemory) = Unit {0}

-- an executable that is made has threads of at most 10,000 operations
abbrev pub IsTask : TaskText → Type 0
IsTask (run file) = Unit {0}
IsTask (step file) = Unit {0}
IsTask (search what file) = Unit {0}
IsTask (generate s z) = z ≤ 10000

-- the limits are in their ranges
pub record AreLimits (limits : Limits) : Type 0 where
  pub some_harts : 1 ≤ limits.harts
  pub few_harts : limits.harts ≤ 64
  pub harts_have_slots : limits.harts ≤ limits.slots
  pub few_slots : limits.slots ≤ 255
  pub some_epochs : 2 ≤ limits.epochs
  pub few_epochs : limits.epochs ≤ 16383
  pub some_steps : 1 ≤ limits.steps
  pub few_steps : limits.steps ≤ 8000000
  pub some_quantum : 1 ≤ limits.quantum
  pub few_quantum : limits.quantum ≤ 10000
  pub least_parts : 2 ≤ limits.parts
  pub most_parts : limits.parts ≤ 64
  pub least_words : 64 ≤ limits.part_words
  pub most_words : limits.part_words ≤ 4096

-- the turn's thread and its instructions are in their ranges
pub record IsTurn (turn : Turn) : Type 0 where
  pub few_threads : turn.tid ≤ 1023
  pub some_steps : 1 ≤ turn.steps
  pub few_steps : turn.steps ≤ 8000000

-- the plan's turns are in their ranges, and not too many
pub record AreTurns (plan : List Turn) : Type 0 where
  pub few : length plan ≤ 4096
  pub each : All IsTurn plan

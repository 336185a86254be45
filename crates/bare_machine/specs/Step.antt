-- What the world makes of a request, and what one instruction of one thread does.
use Rattle.std.specs.Prelude.{ℕ, ◌+◌, ◌-◌, ◌^◌, ◌==◌, ◌||◌, nat_le, Bool, true, false, if◌then◌else◌, List, [], ◌∷◌, ◌++◌, length, take, slice_get, slice_set, slice_index, Option, Some, None, is_some, option_map, unwrap_or}
use Rattle.std.specs.Int.{w64, to_le_bytes}
use Rattle.run_record.specs.declared.event.Event.{Event}
use Rattle.run_record.specs.declared.event.Event.TheVariants.{Begin, End}
use Rattle.run_record.specs.declared.finished.GuestEnd.{GuestEnd}
use Rattle.run_record.specs.declared.finished.GuestEnd.TheVariants.{AllEnded}
use Rattle.rv_decode.specs.declared.instr.Instr.{Instr}
use Rattle.rv_exec.specs.declared.exec.Effect.{Effect}
use Rattle.rv_exec.specs.Registers.{Registers, value}
use Rattle.rv_exec.specs.Registers as registers
use Rattle.rv_exec.specs.Meaning.{finished_by, next}
use Rattle.guest_memory.specs.Fields.{field, with_field}
use Rattle.guest_memory.specs.Reservations.{stands}
use Rattle.entry_calls.specs.declared.call.Call.{Call}
use Rattle.entry_calls.specs.declared.call.Call.TheVariants as calls
use Rattle.entry_calls.specs.declared.call.Outcome.{Outcome}
use Rattle.entry_calls.specs.Calls.{before}
use Rattle.entry_calls.specs.Effects.{events_by, word_by, answer_by}
use Rattle.bare_machine.specs.declared.thread.Thread.{Thread}
use Rattle.bare_machine.specs.declared.touch.Touched.{Touched}
use Rattle.bare_machine.specs.Memory.{stripe, offset, touched, reserved, written}
use Rattle.bare_machine.specs.World.{World, new_thread, count_living}
pub use Rattle.bare_machine.specs.Requests.{desk}
use Rattle.bare_machine.specs.Requests.{Request, done, returned, touch, operate, put, create, join, stop, request}

-- A step: the world after it, its events, and the object that it uses, if any.
pub record Step : Type 0 where
  pub world : World
  pub events : List Event
  pub object : Option ℕ

-- a thread's first instruction has Begin before its other events
abbrev pub first_events : Thread → List Event
first_events t = if t.began then [] else Begin ∷ []

-- the thread's instruction is done; `t` is the thread as it is
abbrev pub goes_on : World → ℕ → Thread → List Event → Option ℕ → Step
goes_on w tid t events object = record {
  world = record w { threads = slice_set w.threads tid (record t { began = true }) };
  events = first_events t ++ events;
  object = object;
}

abbrev pub first_of : Option GuestEnd → Option GuestEnd → Option GuestEnd
first_of None later = later
first_of (Some e) later = Some e

-- how a run has ended in this world: by the first exit or fault, or since no thread lives
abbrev pub end_of : World → Option GuestEnd
end_of w = first_of w.ended (if count_living w.threads == 0 then Some AllEnded else None)

-- the thread ends, and with it the run where this is its first exit or fault
abbrev pub stops : World → ℕ → Thread → Option GuestEnd → Step
stops w tid t end = record {
  world = record w { threads = slice_set w.threads tid (record t { lives = false; began = true }); ended = first_of w.ended end };
  events = first_events t ++ End ∷ [];
  object = Some desk;
}

-- the thread has these registers
abbrev pub with_registers : Thread → Registers → Thread
with_registers t r = record t { regs = r }

-- ---- calls

-- a call is done, and x10 has its answer, where it has one
abbrev pub registers_after : Registers → Option ℕ → Registers
registers_after r None = next r
registers_after r (Some answer) = next (registers.put r 10 answer)

abbrev pub answered : Thread → Option ℕ → Thread
answered t answer = record t { regs = registers_after t.regs answer }

-- how many functions are entered and not left after a call
abbrev pub depth_after : Call → ℕ → ℕ
depth_after (calls.Enter pc) depth = depth + 1
depth_after calls.Leave depth = depth - 1
depth_after _ depth = depth

-- the place of a call is the address of the instruction before the return address in x1
abbrev pub outcome : Thread → Bool → ℕ → Outcome
outcome t wrote answer = record { place = before (value t.regs 1); wrote = wrote; answer = answer }

abbrev pub returns : World → ℕ → Thread → Call → Option ℕ → Option ℕ → Step
returns w tid t call answer object = goes_on w tid (record (answered t answer) { depth = depth_after call t.depth }) (events_by call (outcome t false (unwrap_or answer 0))) object

-- ---- memory

-- it touched granule g: the stripe of the address is its object
abbrev pub touch_step : World → ℕ → Thread → Instr → Effect → ℕ → ℕ → Touched → Step
touch_step w tid t i effect addr g made =
    goes_on (record w { memory = written (reserved w.memory tid g effect) g made.written }) tid (with_registers t (finished_by i.op i t.regs made.value)) [] (Some (stripe addr))

-- an atomic call found this word
abbrev pub operate_step : World → ℕ → Thread → Call → ℕ → ℕ → ℕ → ℕ → Step
operate_step w tid t call addr size g word =
    let old = field word (offset addr) size in
    let stored = word_by call old in
    goes_on (record w { memory = written w.memory g (option_map (with_field word (offset addr) size) stored) }) tid (answered t (answer_by call old)) (events_by call (outcome t (is_some stored) 0)) (Some (stripe addr))

-- ---- the desk

-- a call at the desk is done, with this answer
abbrev pub desk_returns : World → ℕ → Thread → Call → ℕ → Step
desk_returns w tid t call answer = goes_on w tid (answered t (Some answer)) (events_by call (outcome t false answer)) (Some desk)

-- -n as a word
abbrev pub minus : ℕ → ℕ
minus n = 2 ^ 64 - n

-- as many threads live as may, or as many were made as can be
abbrev pub is_full : World → Bool
is_full w = nat_le w.harts (count_living w.threads) || (length w.threads == 1024)

-- the new thread gets the next number
abbrev pub create_step : World → ℕ → Thread → ℕ → ℕ → ℕ → Step
create_step w tid t pc argument stack =
    if is_full w then desk_returns w tid t (calls.Create pc argument stack) (minus 11)
    else desk_returns (record w { threads = w.threads ++ new_thread pc argument stack ∷ [] }) tid t (calls.Create pc argument stack) (length w.threads)

-- 0 of a thread that ended, and else whether it lives or there is none
abbrev pub join_answer : Option Thread → ℕ
join_answer None = minus 3
join_answer (Some t) = if t.lives then minus 16 else 0

-- ---- instructions

-- what the world makes of the request of its thread
abbrev pub serve : World → ℕ → Thread → Request → Step
serve w tid t (done r) = goes_on w tid (with_registers t r) [] None
serve w tid t (returned call answer object) = returns w tid t call answer object
serve w tid t (touch i effect addr g) = touch_step w tid t i effect addr g (touched i.op effect (slice_index w.memory.words g) (stands w.memory.reservations tid g))
serve w tid t (operate call addr size g) = operate_step w tid t call addr size g (slice_index w.memory.words g)
serve w tid t (put word count) = desk_returns (record w { output = w.output ++ take count (to_le_bytes w64 word) }) tid t (calls.Put word count) 0
serve w tid t (create pc argument stack) = create_step w tid t pc argument stack
serve w tid t (join of) = desk_returns w tid t (calls.Join of) (join_answer (slice_get w.threads of))
serve w tid t (stop end) = stops w tid t end

-- one instruction of the thread; a number without a thread does nothing
abbrev pub thread_step : List ℕ → World → ℕ → Option Thread → Step
thread_step file w tid None = record { world = w; events = []; object = None }
thread_step file w tid (Some t) = serve w tid t (request file tid t)

abbrev pub step : List ℕ → World → ℕ → Step
step file w tid = thread_step file w tid (slice_get w.threads tid)

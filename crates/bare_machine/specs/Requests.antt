-- What an instruction comes to, as far as its own thread can tell.
use Rattle.std.specs.Prelude.{ℕ, ◌%◌, ◌==◌, nat_le, Bool, true, false, if◌then◌else◌, List, Option, Some, None}
use Rattle.run_record.specs.declared.finished.GuestEnd.{GuestEnd}
use Rattle.run_record.specs.declared.finished.GuestEnd.TheVariants as ends
use Rattle.rv_decode.specs.declared.instr.Instr.{Instr}
use Rattle.rv_decode.specs.Table.{instr_of}
use Rattle.rv_exec.specs.declared.exec.Effect.{Effect}
use Rattle.rv_exec.specs.declared.exec.Effect.TheVariants as effects
use Rattle.rv_exec.specs.declared.fault.GuestFault.{GuestFault}
use Rattle.rv_exec.specs.declared.fault.GuestFault.TheVariants.{Illegal, FetchOutside, Outside, ReadOnly, Misaligned, UnknownCall, StackDeep}
use Rattle.rv_exec.specs.Faults.{number_of}
use Rattle.rv_exec.specs.Registers.{Registers}
use Rattle.rv_exec.specs.Meaning.{done_by, finished_by}
use Rattle.elf_image.specs.File.{word_at, granule_of, constant_word}
use Rattle.guest_memory.specs.Fields.{field}
use Rattle.entry_calls.specs.declared.call.Call.{Call}
use Rattle.entry_calls.specs.declared.call.Call.TheVariants as calls
use Rattle.entry_calls.specs.declared.call.AtomicOp.{AtomicOp}
use Rattle.entry_calls.specs.declared.call.AtomicOp.TheVariants as ops
use Rattle.entry_calls.specs.Calls.{call_of}
use Rattle.entry_calls.specs.Effects as call_effects
use Rattle.entry_calls.specs.Effects.{answer_by}
use Rattle.bare_machine.specs.declared.thread.Thread.{Thread}
use Rattle.bare_machine.specs.Memory.{stripe, offset}

-- Unless the instruction is done, its thread is as it was.
pub data Request : Type 0 where
  -- the instruction is done, and left these registers
  done : Registers → Request
  -- a call is done, with this answer, if any; it uses this stripe, if any, and leaves it as it is
  returned : Call → Option ℕ → Option ℕ → Request
  -- the instruction touches memory at an address of a granule
  touch : Instr → Effect → ℕ → ℕ → Request
  -- an atomic call, on so many bytes at an address of a granule
  operate : Call → ℕ → ℕ → ℕ → Request
  -- so many bytes of a word are put
  put : ℕ → ℕ → Request
  -- a thread is created, with a pc, an argument and its stack's end
  create : ℕ → ℕ → ℕ → Request
  -- the thread of this number is joined
  join : ℕ → Request
  -- the thread ends, with this exit or fault, if any
  stop : Option GuestEnd → Request

-- the object beside the stripes of memory: threads, output and the run's end
abbrev pub desk : ℕ
desk = 64

-- the object that is used
abbrev pub object_of : Request → Option ℕ
object_of (done r) = None
object_of (returned call answer object) = object
object_of (touch i effect addr g) = Some (stripe addr)
object_of (operate call addr size g) = Some (stripe addr)
object_of (put word count) = Some desk
object_of (create pc argument stack) = Some desk
object_of (join n) = Some desk
object_of (stop end) = Some desk

-- only a thread with a slot makes it
abbrev pub needs : Request → Bool
needs (done r) = false
needs (returned call answer object) = call_effects.needs call
needs (touch i effect addr g) = false
needs (put word count) = false
needs _ = true

abbrev pub faulted : ℕ → Thread → GuestFault → Request
faulted t x fault = stop (Some (ends.Fault (number_of fault) x.regs.pc t))

-- ---- calls

abbrev pub enter_request : ℕ → Thread → ℕ → Request
enter_request t x pc = if nat_le 4096 x.depth then faulted t x StackDeep else returned (calls.Enter pc) None None

-- memory that isn't writable can only be loaded
abbrev pub constant_operation : ℕ → Thread → AtomicOp → Call → ℕ → ℕ → ℕ → Request
constant_operation t x ops.Load call addr size word = returned call (answer_by call (field word (offset addr) size)) (Some (stripe addr))
constant_operation t x _ call addr size word = faulted t x ReadOnly

abbrev pub operation_at : ℕ → Thread → AtomicOp → Call → ℕ → ℕ → Option ℕ → Option ℕ → Request
operation_at t x op call addr size (Some g) constant = operate call addr size g
operation_at t x op call addr size None (Some word) = constant_operation t x op call addr size word
operation_at t x op call addr size None None = faulted t x Outside

abbrev pub operation : List ℕ → ℕ → Thread → AtomicOp → Call → ℕ → ℕ → Request
operation file t x op call addr size =
    if addr % size == 0 then operation_at t x op call addr size (granule_of file addr) (constant_word file addr)
    else faulted t x Misaligned

-- each call; acquires, releases and mutex calls use the stripe of their address, mapped or not
abbrev pub call_request : List ℕ → ℕ → Thread → Call → Request
call_request file t x (calls.Put word count) = put word count
call_request file t x (calls.Exit status) = stop (Some (ends.Exit status))
call_request file t x (calls.Create pc argument stack) = create pc argument stack
call_request file t x calls.ThreadExit = stop None
call_request file t x (calls.Join of) = join of
call_request file t x calls.Yield = returned calls.Yield (Some 0) None
call_request file t x (calls.Access addr size read) = returned (calls.Access addr size read) None None
call_request file t x (calls.Enter pc) = enter_request t x pc
call_request file t x calls.Leave = returned calls.Leave None None
call_request file t x (calls.Atomic op size addr v expected order fail_order) = operation file t x op (calls.Atomic op size addr v expected order fail_order) addr size
call_request file t x calls.Fence = returned calls.Fence None None
call_request file t x (calls.Acquire addr) = returned (calls.Acquire addr) None (Some (stripe addr))
call_request file t x (calls.Release addr) = returned (calls.Release addr) None (Some (stripe addr))
call_request file t x calls.MutexCreate = returned calls.MutexCreate None None
call_request file t x (calls.MutexDestroy addr) = returned (calls.MutexDestroy addr) None (Some (stripe addr))
call_request file t x (calls.PostLock addr read) = returned (calls.PostLock addr read) None (Some (stripe addr))
call_request file t x (calls.PreUnlock addr read) = returned (calls.PreUnlock addr read) None (Some (stripe addr))

-- the call that the registers tell, if any
abbrev pub told_request : List ℕ → ℕ → Thread → Option Call → Request
told_request file t x None = faulted t x UnknownCall
told_request file t x (Some call) = call_request file t x call

-- ---- instructions

-- it touches memory that isn't writable, where it may only load
abbrev pub constant_request : ℕ → Thread → Instr → Effect → ℕ → Request
constant_request t x i (effects.Load a n) word = done (finished_by i.op i x.regs (field word (offset a) n))
constant_request t x i _ word = faulted t x ReadOnly

-- it touches the memory at an address: a granule, a constant word, or none
abbrev pub request_at : ℕ → Thread → Instr → Effect → ℕ → Option ℕ → Option ℕ → Request
request_at t x i effect addr (Some g) constant = touch i effect addr g
request_at t x i effect addr None (Some word) = constant_request t x i effect word
request_at t x i effect addr None None = faulted t x Outside

abbrev pub memory_request : List ℕ → ℕ → Thread → Instr → Effect → ℕ → Request
memory_request file t x i effect addr = request_at t x i effect addr (granule_of file addr) (constant_word file addr)

-- the effect of an instruction that left the thread so
abbrev pub effect_request : List ℕ → ℕ → Thread → Instr → Effect → Request
effect_request file t x i effects.Local = done x.regs
effect_request file t x i effects.Call = told_request file t x (call_of x.regs)
effect_request file t x i (effects.Fault fault) = faulted t x fault
effect_request file t x i (effects.Load a n) = memory_request file t x i (effects.Load a n) a
effect_request file t x i (effects.Store a n v) = memory_request file t x i (effects.Store a n v) a
effect_request file t x i (effects.Amo a n arg) = memory_request file t x i (effects.Amo a n arg) a
effect_request file t x i (effects.Reserve a n) = memory_request file t x i (effects.Reserve a n) a
effect_request file t x i (effects.Conditional a n v) = memory_request file t x i (effects.Conditional a n v) a

abbrev pub instruction_request : List ℕ → ℕ → Thread → Option Instr → Request
instruction_request file t x None = faulted t x Illegal
instruction_request file t x (Some i) = let d = done_by i.op i x.regs in effect_request file t (record x { regs = d.registers }) i d.effect

abbrev pub word_request : List ℕ → ℕ → Thread → Option ℕ → Request
word_request file t x None = faulted t x FetchOutside
word_request file t x (Some word) = instruction_request file t x (instr_of word)

-- the request of the instruction at the pc of thread t
unfoldable pub request : List ℕ → ℕ → Thread → Request
request file t x = word_request file t x (word_at file x.regs.pc)

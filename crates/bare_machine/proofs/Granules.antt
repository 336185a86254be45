-- The granule that a request uses is that of its address.
use Rattle.std.proofs.Common.{◌≡◌, ℕ, Bool, true, false, cond, nat_le, List, Option, Some, None, refl}
use Rattle.std.specs.Prelude.{◌%◌, ◌==◌}
use Rattle.rv_decode.specs.declared.instr.Instr.{Instr}
use Rattle.rv_decode.specs.Table.{instr_of}
use Rattle.rv_exec.specs.declared.exec.Effect.{Effect}
use Rattle.rv_exec.specs.declared.exec.Effect.TheVariants as effects
use Rattle.rv_exec.specs.declared.fault.GuestFault.TheVariants.{StackDeep, Misaligned}
use Rattle.rv_exec.specs.Meaning.{done_by}
use Rattle.elf_image.specs.File.{word_at, granule_of, constant_word}
use Rattle.entry_calls.specs.declared.call.Call.{Call}
use Rattle.entry_calls.specs.declared.call.Call.TheVariants as calls
use Rattle.entry_calls.specs.declared.call.AtomicOp.{AtomicOp}
use Rattle.entry_calls.specs.declared.call.AtomicOp.TheVariants as ops
use Rattle.entry_calls.specs.Calls.{call_of}
use Rattle.bare_machine.specs.declared.thread.Thread.{Thread}
use Rattle.bare_machine.specs.Requests.{Request, returned, touch, operate, faulted, call_request, told_request, operation_at, constant_operation, constant_request, request_at, effect_request, instruction_request, word_request, request}

abbrev pub AtGranule : List ℕ → Request → Type 0
AtGranule file (touch i effect addr g) = granule_of file addr ≡ Some g
AtGranule file (operate call addr size g) = granule_of file addr ≡ Some g
AtGranule file _ = Unit {0}

module _ (file : List ℕ) (t : ℕ) (x : Thread) where
  abbrev Is : Request → Type 0
  Is r = AtGranule file r

  enter_is : (deep : Bool) (pc : ℕ) → Is (cond deep (faulted t x StackDeep) (returned (calls.Enter pc) None None))
  enter_is true pc = tt
  enter_is false pc = tt

  constant_operation_is : (op : AtomicOp) (call : Call) (addr size word : ℕ) → Is (constant_operation t x op call addr size word)
  constant_operation_is ops.Load call addr size word = tt
  constant_operation_is _ call addr size word = tt

  operation_at_is : (op : AtomicOp) (call : Call) (addr size : ℕ) (granule constant : Option ℕ) → granule_of file addr ≡ granule → Is (operation_at t x op call addr size granule constant)
  operation_at_is op call addr size (Some g) constant e = e
  operation_at_is op call addr size None (Some word) e = constant_operation_is op call addr size word
  operation_at_is op call addr size None None e = tt

  operation_is : (aligned : Bool) (op : AtomicOp) (call : Call) (addr size : ℕ) → Is (cond aligned (operation_at t x op call addr size (granule_of file addr) (constant_word file addr)) (faulted t x Misaligned))
  operation_is true op call addr size = operation_at_is op call addr size (granule_of file addr) (constant_word file addr) refl
  operation_is false op call addr size = tt

  call_is : (c : Call) → Is (call_request file t x c)
  call_is (calls.Enter pc) = enter_is (nat_le 4096 x.depth) pc
  call_is (calls.Atomic op size addr v expected order fail_order) = operation_is (addr % size == 0) op (calls.Atomic op size addr v expected order fail_order) addr size
  call_is _ = tt

  told_is : (o : Option Call) → Is (told_request file t x o)
  told_is None = tt
  told_is (Some c) = call_is c

  constant_is : (i : Instr) (effect : Effect) (word : ℕ) → Is (constant_request t x i effect word)
  constant_is i (effects.Load a n) word = tt
  constant_is i _ word = tt

  at_is : (i : Instr) (effect : Effect) (addr : ℕ) (granule constant : Option ℕ) → granule_of file addr ≡ granule → Is (request_at t x i effect addr granule constant)
  at_is i effect addr (Some g) constant e = e
  at_is i effect addr None (Some word) e = constant_is i effect word
  at_is i effect addr None None e = tt

  effect_is : (i : Instr) (effect : Effect) → Is (effect_request file t x i effect)
  effect_is i effects.Local = tt
  effect_is i effects.Call = told_is (call_of x.regs)
  effect_is i (effects.Fault fault) = tt
  effect_is i (effects.Load a n) = at_is i (effects.Load a n) a (granule_of file a) (constant_word file a) refl
  effect_is i (effects.Store a n v) = at_is i (effects.Store a n v) a (granule_of file a) (constant_word file a) refl
  effect_is i (effects.Amo a n arg) = at_is i (effects.Amo a n arg) a (granule_of file a) (constant_word file a) refl
  effect_is i (effects.Reserve a n) = at_is i (effects.Reserve a n) a (granule_of file a) (constant_word file a) refl
  effect_is i (effects.Conditional a n v) = at_is i (effects.Conditional a n v) a (granule_of file a) (constant_word file a) refl

instruction_is : (file : List ℕ) (t : ℕ) (x : Thread) (o : Option Instr) → AtGranule file (instruction_request file t x o)
instruction_is file t x None = tt
instruction_is file t x (Some i) = let d = done_by i.op i x.regs in effect_is file t (record x { regs = d.registers }) i d.effect

word_is : (file : List ℕ) (t : ℕ) (x : Thread) (o : Option ℕ) → AtGranule file (word_request file t x o)
word_is file t x None = tt
word_is file t x (Some word) = instruction_is file t x (instr_of word)

pub request_at_granule : (file : List ℕ) (t : ℕ) (x : Thread) → AtGranule file (request file t x)
unfolding request
request_at_granule file t x = word_is file t x (word_at file x.regs.pc)

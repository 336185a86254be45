-- The events of an instruction are those of the object that it uses.
use Rattle.std.proofs.Common.{◌≡◌, ◌+◌, ℕ, Bool, true, false, cond, nat_le, nat_eq, List, [], ◌∷◌, ◌++◌, length, slice_get, Option, Some, None, refl, unwrap_or}
use Rattle.std.specs.Prelude.{◌%◌, ◌==◌, is_some, if◌then◌else◌}
use Rattle.run_record.specs.declared.event.Event.{Event}
use Rattle.run_record.specs.declared.event.Event.TheVariants as events
use Rattle.run_record.specs.declared.event.Part.TheVariants.{Main}
use Rattle.rv_decode.specs.declared.instr.Instr.{Instr}
use Rattle.rv_decode.specs.Table.{instr_of}
use Rattle.rv_exec.specs.declared.exec.Effect.{Effect}
use Rattle.rv_exec.specs.declared.exec.Effect.TheVariants as effects
use Rattle.rv_exec.specs.declared.fault.GuestFault.TheVariants.{StackDeep, Misaligned}
use Rattle.rv_exec.specs.Registers.{value}
use Rattle.rv_exec.specs.Meaning.{done_by}
use Rattle.elf_image.specs.File.{word_at, granule_of, constant_word}
use Rattle.guest_memory.specs.Fields.{field}
use Rattle.entry_calls.specs.declared.call.Call.{Call}
use Rattle.entry_calls.specs.declared.call.Call.TheVariants as calls
use Rattle.entry_calls.specs.declared.call.AtomicOp.{AtomicOp}
use Rattle.entry_calls.specs.declared.call.AtomicOp.TheVariants as ops
use Rattle.entry_calls.specs.Calls.{call_of, before}
use Rattle.entry_calls.specs.Effects.{events_by, only_if, acquires, releases, loading, storing, changing, atomic_events, full, word_by, answer_by}
use Rattle.bare_machine.specs.declared.thread.Thread.{Thread}
use Rattle.bare_machine.specs.Memory.{stripe, offset}
use Rattle.bare_machine.specs.Requests.{Request, done, returned, touch, operate, put, create, join, stop, object_of, constant_request, request_at, memory_request, effect_request, instruction_request, word_request, told_request, call_request, operation_at, constant_operation, faulted, request}
use Rattle.bare_machine.specs.Step.{desk, first_events, outcome}
use Rattle.turn_orders.specs.Lists.{Each}
use Rattle.turn_orders.proofs.Members.{each_append}
use Rattle.place_turns.specs.Places.{Local, Value, stripe_in, desk_in}
use Rattle.place_turns.specs.Turns.{served, is_full, create_turn, join_answer}

-- The event may be one of an instruction that uses this object, where so many threads were made before.
abbrev pub Suits : Option ℕ → ℕ → Event → Type 0
Suits object made (events.Acquire addr part) = object ≡ Some (stripe addr)
Suits object made (events.Release addr part replaces) = object ≡ Some (stripe addr)
Suits object made (events.Destroy addr) = object ≡ Some (stripe addr)
Suits object made (events.Clear addr) = object ≡ Some (stripe addr)
Suits object made (events.Create n) = (object ≡ Some desk) × (n ≡ made)
Suits object made (events.Join n) = object ≡ Some desk
Suits object made events.End = object ≡ Some desk
Suits object made _ = Unit {0}

abbrev pub AllSuit : Option ℕ → ℕ → List Event → Type 0
AllSuit object made es = Each (Suits object made) es

-- those of a request that its thread alone tells, wherever it is called
abbrev IsSuited : Request → Type 0
IsSuited (returned call answer object) = (place made : ℕ) → AllSuit object made (events_by call (record { place = place; wrote = false; answer = unwrap_or answer 0 }))
IsSuited (operate call addr size g) = (place : ℕ) (wrote : Bool) (made : ℕ) → AllSuit (Some (stripe addr)) made (events_by call (record { place = place; wrote = wrote; answer = 0 }))
IsSuited _ = Unit {0}

-- ---- atomic operations

module _ (made addr : ℕ) where
  abbrev Here : List Event → Type 0
  Here es = AllSuit (Some (stripe addr)) made es

  acquire_here : (b : Bool) → Here (only_if b (events.Acquire addr Main))
  acquire_here true = (refl, tt)
  acquire_here false = tt

  release_here : (b : Bool) → Here (only_if b (events.Release addr Main false))
  release_here true = (refl, tt)
  release_here false = tt

  abbrev suits : Event → Type 0
  suits e = Suits (Some (stripe addr)) made e

  loading_here : (place size order : ℕ) → Here (loading place addr size order)
  loading_here place size order = each_append suits (only_if (acquires order) (events.Acquire addr Main)) (events.Access place addr size true true ∷ []) (acquire_here (acquires order)) (tt, tt)

  storing_here : (place size order : ℕ) → Here (storing place addr size order)
  storing_here place size order = (tt, (by_order (releases order), tt))
    where
      by_order : (b : Bool) → suits (if b then events.Release addr Main true else events.Clear addr)
      by_order true = refl
      by_order false = refl

  changing_here : (place size order : ℕ) → Here (changing place addr size order)
  changing_here place size order =
      each_append suits (events.Access place addr size false true ∷ [] ++ only_if (acquires order) (events.Acquire addr Main)) (only_if (releases order) (events.Release addr Main false))
      (each_append suits (events.Access place addr size false true ∷ []) (only_if (acquires order) (events.Acquire addr Main)) (tt, tt) (acquire_here (acquires order))) (release_here (releases order))

  atomic_here : (op : AtomicOp) (wrote : Bool) (place size order fail_order : ℕ) → Here (atomic_events op wrote place addr size order fail_order)
  atomic_here ops.Load wrote place size order fail_order = loading_here place size order
  atomic_here ops.Store wrote place size order fail_order = storing_here place size order
  atomic_here ops.Compare true place size order fail_order = changing_here place size order
  atomic_here ops.Compare false place size order fail_order = loading_here place size fail_order
  atomic_here _ wrote place size order fail_order = changing_here place size order

-- ---- requests

module _ (file : List ℕ) (t : ℕ) (x : Thread) where
  access_suits : (b : Bool) (place addr size : ℕ) (read : Bool) (made : ℕ) → AllSuit None made (cond b [] (events.Access place addr size read false ∷ []))
  access_suits true place addr size read made = tt
  access_suits false place addr size read made = (tt, tt)

  enter_suits : (deep : Bool) (pc : ℕ) → IsSuited (cond deep (faulted t x StackDeep) (returned (calls.Enter pc) None None))
  enter_suits true pc = tt
  enter_suits false pc = λ place made. (tt, tt)

  abbrev CallSuits : Call → ℕ → Type 0
  CallSuits call addr = (place : ℕ) (wrote : Bool) (answer made : ℕ) → AllSuit (Some (stripe addr)) made (events_by call (record { place = place; wrote = wrote; answer = answer }))

  constant_suits : (op : AtomicOp) (call : Call) (addr size word : ℕ) → CallSuits call addr → IsSuited (constant_operation t x op call addr size word)
  constant_suits ops.Load call addr size word s = λ place made. s place false (unwrap_or (answer_by call (field word (offset addr) size)) 0) made
  constant_suits _ call addr size word s = tt

  operation_at_suits : (op : AtomicOp) (call : Call) (addr size : ℕ) (granule constant : Option ℕ) → CallSuits call addr → IsSuited (operation_at t x op call addr size granule constant)
  operation_at_suits op call addr size (Some g) constant s = λ place wrote made. s place wrote 0 made
  operation_at_suits op call addr size None (Some word) s = constant_suits op call addr size word s
  operation_at_suits op call addr size None None s = tt

  operation_suits : (aligned : Bool) (op : AtomicOp) (call : Call) (addr size : ℕ) → CallSuits call addr → IsSuited (cond aligned (operation_at t x op call addr size (granule_of file addr) (constant_word file addr)) (faulted t x Misaligned))
  operation_suits true op call addr size s = operation_at_suits op call addr size (granule_of file addr) (constant_word file addr) s
  operation_suits false op call addr size s = tt

  call_suits : (call : Call) → IsSuited (call_request file t x call)
  call_suits (calls.Put word count) = tt
  call_suits (calls.Exit status) = tt
  call_suits (calls.Create pc argument stack) = tt
  call_suits calls.ThreadExit = tt
  call_suits (calls.Join of) = tt
  call_suits calls.Yield = λ place made. tt
  call_suits (calls.Access addr size read) = λ place made. access_suits (size == 0) place addr size read made
  call_suits (calls.Enter pc) = enter_suits (nat_le 4096 x.depth) pc
  call_suits calls.Leave = λ place made. (tt, tt)
  call_suits (calls.Atomic op size addr v expected order fail_order) =
      operation_suits (addr % size == 0) op (calls.Atomic op size addr v expected order fail_order) addr size (λ place wrote answer made. atomic_here made addr op wrote place size order fail_order)
  call_suits calls.Fence = λ place made. tt
  call_suits (calls.Acquire addr) = λ place made. (refl, tt)
  call_suits (calls.Release addr) = λ place made. (refl, tt)
  call_suits calls.MutexCreate = λ place made. tt
  call_suits (calls.MutexDestroy addr) = λ place made. (refl, tt)
  call_suits (calls.PostLock addr true) = λ place made. (tt, (refl, tt))
  call_suits (calls.PostLock addr false) = λ place made. (tt, (refl, (refl, tt)))
  call_suits (calls.PreUnlock addr true) = λ place made. (tt, (refl, tt))
  call_suits (calls.PreUnlock addr false) = λ place made. (tt, (refl, tt))

  told_suits : (o : Option Call) → IsSuited (told_request file t x o)
  told_suits None = tt
  told_suits (Some call) = call_suits call

  constant_request_suits : (i : Instr) (effect : Effect) (word : ℕ) → IsSuited (constant_request t x i effect word)
  constant_request_suits i (effects.Load a n) word = tt
  constant_request_suits i _ word = tt

  request_at_suits : (i : Instr) (effect : Effect) (addr : ℕ) (granule constant : Option ℕ) → IsSuited (request_at t x i effect addr granule constant)
  request_at_suits i effect addr (Some g) constant = tt
  request_at_suits i effect addr None (Some word) = constant_request_suits i effect word
  request_at_suits i effect addr None None = tt

  memory_suits : (i : Instr) (effect : Effect) (addr : ℕ) → IsSuited (memory_request file t x i effect addr)
  memory_suits i effect addr = request_at_suits i effect addr (granule_of file addr) (constant_word file addr)

  effect_suits : (i : Instr) (effect : Effect) → IsSuited (effect_request file t x i effect)
  effect_suits i effects.Local = tt
  effect_suits i effects.Call = told_suits (call_of x.regs)
  effect_suits i (effects.Fault fault) = tt
  effect_suits i (effects.Load a n) = memory_suits i (effects.Load a n) a
  effect_suits i (effects.Store a n v) = memory_suits i (effects.Store a n v) a
  effect_suits i (effects.Amo a n arg) = memory_suits i (effects.Amo a n arg) a
  effect_suits i (effects.Reserve a n) = memory_suits i (effects.Reserve a n) a
  effect_suits i (effects.Conditional a n v) = memory_suits i (effects.Conditional a n v) a

instruction_suits : (file : List ℕ) (t : ℕ) (x : Thread) (o : Option Instr) → IsSuited (instruction_request file t x o)
instruction_suits file t x None = tt
instruction_suits file t x (Some i) = let d = done_by i.op i x.regs in effect_suits file t (record x { regs = d.registers }) i d.effect

word_suits : (file : List ℕ) (t : ℕ) (x : Thread) (o : Option ℕ) → IsSuited (word_request file t x o)
word_suits file t x None = tt
word_suits file t x (Some word) = instruction_suits file t x (instr_of word)

request_suits : (file : List ℕ) (t : ℕ) (x : Thread) → IsSuited (request file t x)
unfolding request
request_suits file t x = word_suits file t x (word_at file x.regs.pc)

-- ---- what is told

first_suits : (object : Option ℕ) (made : ℕ) (x : Thread) (es : List Event) → AllSuit object made es → AllSuit object made (first_events x ++ es)
first_suits object made x es s = each_append (Suits object made) (first_events x) es (go x.began) s
  where
    go : (b : Bool) → AllSuit object made (cond b [] (events.Begin ∷ []))
    go true = tt
    go false = (tt, tt)

created_suits : (none : Bool) (made : ℕ) → AllSuit (Some desk) made (cond none [] (events.Create made ∷ []))
created_suits true made = tt
created_suits false made = ((refl, refl), tt)

joined_suits : (done : Bool) (made n : ℕ) → AllSuit (Some desk) made (cond done (events.Join n ∷ []) [])
joined_suits true made n = (refl, tt)
joined_suits false made n = tt

create_suits : (noroom : Bool) (l : Local) (v : Value) (x : Thread) (pc argument stack : ℕ) → AllSuit (Some desk) (length (desk_in v).made) (create_turn l (desk_in v) x pc argument stack noroom).told
create_suits true l v x pc argument stack = first_suits (Some desk) (length (desk_in v).made) x [] tt
create_suits false l v x pc argument stack =
    first_suits (Some desk) (length (desk_in v).made) x (cond (nat_eq (length (desk_in v).made) full) [] (events.Create (length (desk_in v).made) ∷ [])) (created_suits (nat_eq (length (desk_in v).made) full) (length (desk_in v).made))

served_suits : (harts t : ℕ) (l : Local) (v : Value) (x : Thread) (r : Request) → IsSuited r → AllSuit (object_of r) (length (desk_in v).made) (served harts t l v x r).told
served_suits harts t l v x (done r) s = first_suits None (length (desk_in v).made) x [] tt
served_suits harts t l v x (returned call answer object) s = first_suits object (length (desk_in v).made) x (events_by call (outcome x false (unwrap_or answer 0))) (s (before (value x.regs 1)) (length (desk_in v).made))
served_suits harts t l v x (touch i effect addr n) s = first_suits (Some (stripe addr)) (length (desk_in v).made) x [] tt
served_suits harts t l v x (operate call addr size n) s =
    let old : ℕ = field ((stripe_in v).words n) (offset addr) size in
    let wrote : Bool = is_some (word_by call old) in
    first_suits (Some (stripe addr)) (length (desk_in v).made) x (events_by call (outcome x wrote 0)) (s (before (value x.regs 1)) wrote (length (desk_in v).made))
served_suits harts t l v x (put word count) s = first_suits (Some desk) (length (desk_in v).made) x (events.Put word count ∷ []) (tt, tt)
served_suits harts t l v x (create pc argument stack) s = create_suits (is_full harts (desk_in v)) l v x pc argument stack
served_suits harts t l v x (join n) s = first_suits (Some desk) (length (desk_in v).made) x (cond (nat_eq (join_answer (slice_get (desk_in v).lives n)) 0) (events.Join n ∷ []) []) (joined_suits (nat_eq (join_answer (slice_get (desk_in v).lives n)) 0) (length (desk_in v).made) n)
served_suits harts t l v x (stop end) s = first_suits (Some desk) (length (desk_in v).made) x (events.End ∷ []) (refl, tt)

pub turn_suits : (file : List ℕ) (harts t : ℕ) (l : Local) (v : Value) (x : Thread) → AllSuit (object_of (request file t x)) (length (desk_in v).made) (served harts t l v x (request file t x)).told
turn_suits file harts t l v x = served_suits harts t l v x (request file t x) (request_suits file t x)

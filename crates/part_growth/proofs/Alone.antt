-- What an instruction that uses no object tells: events that are local to its thread, and none where it needs no slot.
use Rattle.std.proofs.Common.{◌≡◌, ℕ, Bool, true, false, not, Option, Some, None, List, [], ◌∷◌, ◌++◌, refl, ap, sym, subst}
use Rattle.std.specs.Prelude.{◌%◌, ◌==◌, nat_le, if◌then◌else◌, unwrap_or}
use Rattle.std.proofs.lemmas.Bool.{or_parts}
use Rattle.run_record.specs.declared.event.Event.{Event}
use Rattle.run_record.specs.declared.event.Event.TheVariants as events
use Rattle.rv_decode.specs.declared.instr.Instr.{Instr}
use Rattle.rv_decode.specs.Table.{instr_of}
use Rattle.rv_exec.specs.declared.exec.Effect.{Effect}
use Rattle.rv_exec.specs.declared.exec.Effect.TheVariants as effects
use Rattle.rv_exec.specs.declared.fault.GuestFault.TheVariants.{Misaligned, StackDeep}
use Rattle.rv_exec.specs.Meaning.{done_by}
use Rattle.elf_image.specs.File.{word_at, granule_of, constant_word}
use Rattle.entry_calls.specs.declared.call.Call.{Call}
use Rattle.entry_calls.specs.declared.call.Call.TheVariants as calls
use Rattle.entry_calls.specs.declared.call.AtomicOp.{AtomicOp}
use Rattle.entry_calls.specs.declared.call.AtomicOp.TheVariants as ops
use Rattle.entry_calls.specs.declared.call.Outcome.{Outcome}
use Rattle.entry_calls.specs.Calls.{call_of}
use Rattle.entry_calls.specs.Effects.{events_by}
use Rattle.entry_calls.specs.Effects as by_call
use Rattle.bare_machine.specs.declared.thread.Thread.{Thread}
use Rattle.bare_machine.specs.Requests.{Request, done, returned, touch, operate, put, create, join, stop, object_of, needs, faulted, constant_operation, operation_at, call_request}
use Rattle.bare_machine.specs.Requests.{told_request, constant_request, request_at, effect_request, instruction_request, word_request, request}
use Rattle.bare_machine.specs.Preview.{thread_needs}
use Rattle.bare_machine.specs.Step.{first_events, outcome}
use Rattle.turn_orders.specs.Lists.{Each}
use Rattle.turn_orders.proofs.Members.{each_append}
use Rattle.place_turns.specs.Places.{Local, Value}
use Rattle.place_turns.specs.Turns.{Turned, steps, served, stepped, bare_turn}
use Rattle.machine_laws.specs.Events.{is_local, is_put}
use Rattle.turn_histories.specs.Entries.{next_object}

abbrev AreLocalEvents : List Event → Type 0
AreLocalEvents es = Each (λ (e : Event). is_local e ≡ true) es

-- a call without an object announces local events
abbrev TellsLocal : Request → Type 0
TellsLocal (returned call answer None) = (o : Outcome) → AreLocalEvents (events_by call o)
TellsLocal _ = Unit {0}

module _ (file : List ℕ) (t : ℕ) (x : Thread) where
  one_access : (o : Outcome) (addr size : ℕ) (read : Bool) (none : Bool) →
      AreLocalEvents (if none then [] else events.Access o.place addr size read false ∷ [])
  one_access o addr size read true = tt
  one_access o addr size read false = (refl, tt)

  entered : (pc : ℕ) (deep : Bool) → TellsLocal (if deep then faulted t x StackDeep else returned (calls.Enter pc) None None)
  entered pc true = tt
  entered pc false = λ o. (refl, tt)

  constant : (op : AtomicOp) (call : Call) (addr size word : ℕ) → TellsLocal (constant_operation t x op call addr size word)
  constant ops.Load call addr size word = tt
  constant _ call addr size word = tt

  operated : (op : AtomicOp) (call : Call) (addr size : ℕ) (g word : Option ℕ) → TellsLocal (operation_at t x op call addr size g word)
  operated op call addr size (Some g) word = tt
  operated op call addr size None (Some word) = constant op call addr size word
  operated op call addr size None None = tt

  aligned : (op : AtomicOp) (call : Call) (addr size : ℕ) (even : Bool) →
      TellsLocal (if even then operation_at t x op call addr size (granule_of file addr) (constant_word file addr) else faulted t x Misaligned)
  aligned op call addr size true = operated op call addr size (granule_of file addr) (constant_word file addr)
  aligned op call addr size false = tt

  called : (call : Call) → TellsLocal (call_request file t x call)
  called (calls.Put word count) = tt
  called (calls.Exit status) = tt
  called (calls.Create pc argument stack) = tt
  called calls.ThreadExit = tt
  called (calls.Join of) = tt
  called calls.Yield = λ o. tt
  called (calls.Access addr size read) = λ o. one_access o addr size read (size == 0)
  called (calls.Enter pc) = entered pc (nat_le 4096 x.depth)
  called calls.Leave = λ o. (refl, tt)
  called (calls.Atomic op size addr v expected order fail_order) =
      aligned op (calls.Atomic op size addr v expected order fail_order) addr size (addr % size == 0)
  called calls.Fence = λ o. tt
  called (calls.Acquire addr) = tt
  called (calls.Release addr) = tt
  called calls.MutexCreate = λ o. tt
  called (calls.MutexDestroy addr) = tt
  called (calls.PostLock addr read) = tt
  called (calls.PreUnlock addr read) = tt

  told : (o : Option Call) → TellsLocal (told_request file t x o)
  told None = tt
  told (Some call) = called call

  constant_touched : (i : Instr) (effect : Effect) (word : ℕ) → TellsLocal (constant_request t x i effect word)
  constant_touched i (effects.Load a n) word = tt
  constant_touched i _ word = tt

  touched_at : (i : Instr) (effect : Effect) (addr : ℕ) (g word : Option ℕ) → TellsLocal (request_at t x i effect addr g word)
  touched_at i effect addr (Some g) word = tt
  touched_at i effect addr None (Some word) = constant_touched i effect word
  touched_at i effect addr None None = tt

  of_effect : (i : Instr) (effect : Effect) → TellsLocal (effect_request file t x i effect)
  of_effect i effects.Local = tt
  of_effect i effects.Call = told (call_of x.regs)
  of_effect i (effects.Fault fault) = tt
  of_effect i (effects.Load a n) = touched_at i (effects.Load a n) a (granule_of file a) (constant_word file a)
  of_effect i (effects.Store a n v) = touched_at i (effects.Store a n v) a (granule_of file a) (constant_word file a)
  of_effect i (effects.Amo a n arg) = touched_at i (effects.Amo a n arg) a (granule_of file a) (constant_word file a)
  of_effect i (effects.Reserve a n) = touched_at i (effects.Reserve a n) a (granule_of file a) (constant_word file a)
  of_effect i (effects.Conditional a n v) = touched_at i (effects.Conditional a n v) a (granule_of file a) (constant_word file a)

of_instr : (file : List ℕ) (t : ℕ) (x : Thread) (o : Option Instr) → TellsLocal (instruction_request file t x o)
of_instr file t x None = tt
of_instr file t x (Some i) = let d = done_by i.op i x.regs in of_effect file t (record x { regs = d.registers }) i d.effect

of_word : (file : List ℕ) (t : ℕ) (x : Thread) (o : Option ℕ) → TellsLocal (word_request file t x o)
of_word file t x None = tt
of_word file t x (Some word) = of_instr file t x (instr_of word)

of_request : (file : List ℕ) (t : ℕ) (x : Thread) → TellsLocal (request file t x)
unfolding request
of_request file t x = of_word file t x (word_at file x.regs.pc)

-- ---- a turn

first_local : (x : Thread) → AreLocalEvents (first_events x)
first_local x = go x.began
  where
    go : (began : Bool) → AreLocalEvents (if began then [] else events.Begin ∷ [])
    go true = tt
    go false = (refl, tt)

served_local : (harts t : ℕ) (l : Local) (v : Value) (x : Thread) (r : Request) → TellsLocal r → object_of r ≡ None →
    AreLocalEvents (served harts t l v x r).told
served_local harts t l v x (done r) tells none = each_append (λ (e : Event). is_local e ≡ true) (first_events x) [] (first_local x) tt
served_local harts t l v x (returned call answer None) tells none =
    each_append (λ (e : Event). is_local e ≡ true) (first_events x) (events_by call (outcome x false (unwrap_or answer 0))) (first_local x)
    (tells (outcome x false (unwrap_or answer 0)))
served_local harts t l v x (returned call answer (Some k)) tells none = absurd (cc)
served_local harts t l v x (touch i effect addr n) tells none = absurd (cc)
served_local harts t l v x (operate call addr size n) tells none = absurd (cc)
served_local harts t l v x (put word count) tells none = absurd (cc)
served_local harts t l v x (create pc argument stack) tells none = absurd (cc)
served_local harts t l v x (join n) tells none = absurd (cc)
served_local harts t l v x (stop end) tells none = absurd (cc)

stepped_local : (file : List ℕ) (harts t : ℕ) (l : Local) (v : Value) (o : Option Thread) → next_object file t o ≡ None →
    AreLocalEvents (stepped file harts t l v o).told
stepped_local file harts t l v None none = tt
stepped_local file harts t l v (Some x) none = served_local harts t l v x (request file t x) (of_request file t x) none

-- An instruction that uses no object tells events that are local to its thread.
pub told_local : (file : List ℕ) (harts t : ℕ) (found left : Local) (v : Value) (es : List Event) → next_object file t found.thread ≡ None →
    bare_turn file harts t steps found v ≡ record { local = left; value = v; told = es } → Each (λ (e : Event). is_local e ≡ true) es
told_local file harts t found left v es none turned =
    subst AreLocalEvents (ap (λ (r : Turned). r.told) turned) (stepped_local file harts t found v found.thread none)

-- ---- without a slot

abbrev ArePuts : List Event → Type 0
ArePuts es = Each (λ (e : Event). is_put e ≡ true) es

first_puts : (x : Thread) (es : List Event) → x.began ≡ true → ArePuts es → ArePuts (first_events x ++ es)
first_puts x es began puts = subst (λ (b : Bool). ArePuts ((if b then [] else events.Begin ∷ []) ++ es)) (sym began) puts

call_puts : (c : Call) (o : Outcome) → by_call.needs c ≡ false → ArePuts (events_by c o)
call_puts (calls.Put word count) o n = (refl, tt)
call_puts calls.Yield o n = tt
call_puts calls.MutexCreate o n = tt
call_puts calls.Fence o n = tt
call_puts _ o n = absurd (cc)

served_puts : (harts t : ℕ) (l : Local) (v : Value) (x : Thread) (r : Request) → x.began ≡ true → needs r ≡ false → ArePuts (served harts t l v x r).told
served_puts harts t l v x (done r) began n = first_puts x [] began tt
served_puts harts t l v x (returned call answer object) began n =
    first_puts x (events_by call (outcome x false (unwrap_or answer 0))) began (call_puts call (outcome x false (unwrap_or answer 0)) n)
served_puts harts t l v x (touch i effect addr g) began n = first_puts x [] began tt
served_puts harts t l v x (put word count) began n = first_puts x (events.Put word count ∷ []) began (refl, tt)
served_puts harts t l v x _ began n = absurd (cc)

not_false : (b : Bool) → not b ≡ false → b ≡ true
not_false true e = refl
not_false false e = sym e

stepped_puts : (file : List ℕ) (harts t : ℕ) (l : Local) (v : Value) (o : Option Thread) → thread_needs file t o ≡ false →
    ArePuts (stepped file harts t l v o).told
stepped_puts file harts t l v None n = tt
stepped_puts file harts t l v (Some x) n =
    let parts = or_parts (not x.began) (needs (request file t x)) n in
    served_puts harts t l v x (request file t x) (not_false x.began parts.0) parts.1

-- An instruction that needs no slot tells nothing but bytes that it puts.
pub told_puts : (file : List ℕ) (harts t : ℕ) (found : Local) (v : Value) (left : Turned) → thread_needs file t found.thread ≡ false →
    bare_turn file harts t steps found v ≡ left → Each (λ (e : Event). is_put e ≡ true) left.told
told_puts file harts t found v left without turned =
    subst (λ (r : Turned). ArePuts r.told) turned (stepped_puts file harts t found v found.thread without)

none_both : (es : List Event) → AreLocalEvents es → ArePuts es → es ≡ []
none_both [] l p = refl
none_both (events.Put value count ∷ es) l p = absurd (let q = l.0 in cc)
none_both (events.Begin ∷ es) l p = absurd (let q = p.0 in cc)
none_both (events.Create child ∷ es) l p = absurd (let q = p.0 in cc)
none_both (events.End ∷ es) l p = absurd (let q = p.0 in cc)
none_both (events.Join of ∷ es) l p = absurd (let q = p.0 in cc)
none_both (events.Enter pc ∷ es) l p = absurd (let q = p.0 in cc)
none_both (events.Leave ∷ es) l p = absurd (let q = p.0 in cc)
none_both (events.Lock addr read ∷ es) l p = absurd (let q = p.0 in cc)
none_both (events.Unlock addr read ∷ es) l p = absurd (let q = p.0 in cc)
none_both (events.Acquire addr part ∷ es) l p = absurd (let q = p.0 in cc)
none_both (events.Release addr part replaces ∷ es) l p = absurd (let q = p.0 in cc)
none_both (events.Destroy addr ∷ es) l p = absurd (let q = p.0 in cc)
none_both (events.Access place addr size read atomic ∷ es) l p = absurd (let q = p.0 in cc)
none_both (events.Clear addr ∷ es) l p = absurd (let q = p.0 in cc)

-- And without an object, nothing.
pub told_nothing : (file : List ℕ) (harts t : ℕ) (found left : Local) (v : Value) (es : List Event) → next_object file t found.thread ≡ None →
    thread_needs file t found.thread ≡ false → bare_turn file harts t steps found v ≡ record { local = left; value = v; told = es } → es ≡ []
told_nothing file harts t found left v es none without turned =
    none_both es (told_local file harts t found left v es none turned)
    (told_puts file harts t found v (record { local = left; value = v; told = es }) without turned)

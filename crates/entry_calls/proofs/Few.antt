-- No call has more than three events.
use Rattle.std.proofs.Common.{ℕ, ◌≤◌, Bool, true, false, nat_eq, List, [], ◌∷◌, ◌++◌, length, arith, if◌then◌else◌}
use Rattle.std.proofs.lemmas.Bool.{cond_both}
use Rattle.run_record.specs.declared.event.Event.{Event}
use Rattle.run_record.specs.declared.event.Event.TheVariants as events
use Rattle.run_record.specs.declared.event.Part.TheVariants.{Main}
use Rattle.entry_calls.specs.declared.call.Call.{Call}
use Rattle.entry_calls.specs.declared.call.Call.TheVariants.{Create, Join, Access, Atomic, PostLock, PreUnlock}
use Rattle.entry_calls.specs.declared.call.Outcome.{Outcome}
use Rattle.entry_calls.specs.declared.call.AtomicOp.{AtomicOp}
use Rattle.entry_calls.specs.declared.call.AtomicOp.TheVariants as ops
use Rattle.entry_calls.specs.Effects.{only_if, acquires, releases, loading, changing, atomic_events, events_by, full}

abbrev IsFew : List Event → Type 0
IsFew es = length es ≤ 3

before : (b : Bool) (e a : Event) → IsFew (only_if b e ++ a ∷ [])
before true e a = omega arith
before false e a = omega arith

after : (b d : Bool) (a e f : Event) → IsFew (a ∷ [] ++ only_if b e ++ only_if d f)
after true true a e f = omega arith
after true false a e f = omega arith
after false true a e f = omega arith
after false false a e f = omega arith

few_loading : (place addr size order : ℕ) → IsFew (loading place addr size order)
few_loading place addr size order = before (acquires order) (events.Acquire addr Main) (events.Access place addr size true true)

few_changing : (place addr size order : ℕ) → IsFew (changing place addr size order)
few_changing place addr size order =
    after (acquires order) (releases order) (events.Access place addr size false true) (events.Acquire addr Main) (events.Release addr Main false)

few_atomic : (op : AtomicOp) (wrote : Bool) (place addr size order fail_order : ℕ) → IsFew (atomic_events op wrote place addr size order fail_order)
few_atomic ops.Load wrote place addr size order fail_order = few_loading place addr size order
few_atomic ops.Store wrote place addr size order fail_order = omega arith
few_atomic ops.Compare true place addr size order fail_order = few_changing place addr size order
few_atomic ops.Compare false place addr size order fail_order = few_loading place addr size fail_order
few_atomic _ wrote place addr size order fail_order = few_changing place addr size order

either : (b : Bool) (one other : List Event) → IsFew one → IsFew other → IsFew (if b then one else other)
either b one other p q = cond_both b one other IsFew (λ e. p) (λ e. q)

pub few : (c : Call) (o : Outcome) → length (events_by c o) ≤ 3
few (Create pc argument sp) o = either (nat_eq o.answer full) [] (events.Create o.answer ∷ []) (omega arith) (omega arith)
few (Join tid) o = either (nat_eq o.answer 0) (events.Join tid ∷ []) [] (omega arith) (omega arith)
few (Access addr size read) o = either (nat_eq size 0) [] (events.Access o.place addr size read false ∷ []) (omega arith) (omega arith)
few (Atomic op size addr v expected order fail_order) o = few_atomic op o.wrote o.place addr size order fail_order
few (PostLock addr true) o = omega arith
few (PostLock addr false) o = omega arith
few (PreUnlock addr true) o = omega arith
few (PreUnlock addr false) o = omega arith
few _ o = omega arith

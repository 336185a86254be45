-- Of the events of an instruction only the last one may raise an epoch or end the thread.
use Rattle.std.proofs.Common.{◌≡◌, ℕ, Bool, true, false, Option, Some, None, List, [], ◌∷◌, ◌++◌, length, refl, ap, subst, ◌∙◌}
use Rattle.std.specs.Prelude.{◌==◌, if◌then◌else◌, unwrap_or, slice_get}
use Rattle.run_record.specs.declared.event.Event.{Event}
use Rattle.run_record.specs.declared.event.Event.TheVariants as events
use Rattle.run_record.specs.declared.event.Part.TheVariants.{Main}
use Rattle.run_laws.specs.Labels.{raises, is_end}
use Rattle.entry_calls.specs.declared.call.Call.{Call}
use Rattle.entry_calls.specs.declared.call.Call.TheVariants as calls
use Rattle.entry_calls.specs.declared.call.AtomicOp.{AtomicOp}
use Rattle.entry_calls.specs.declared.call.AtomicOp.TheVariants as ops
use Rattle.entry_calls.specs.declared.call.Outcome.{Outcome}
use Rattle.entry_calls.specs.Effects.{acquires, releases, only_if, loading, changing, atomic_events, full, events_by}
use Rattle.turn_orders.specs.Lists.{Each}
use Rattle.bare_machine.specs.declared.thread.Thread.{Thread}
use Rattle.bare_machine.specs.Requests.{Request, done, returned, touch, operate, put, create, join, stop, request}
use Rattle.bare_machine.specs.Step.{first_events, outcome, minus}
use Rattle.place_turns.specs.Places.{Local, Value, desk_in}
use Rattle.place_turns.specs.Turns.{Turned, steps, served, stepped, bare_turn, create_turn, is_full, join_answer}

-- none but the last raises an epoch or ends the thread
abbrev QuietFirst : List Event → Type 0
QuietFirst [] = Unit {0}
QuietFirst (e ∷ []) = Unit {0}
QuietFirst (e ∷ (f ∷ es)) = (raises e ≡ 0) × (is_end e ≡ false) × QuietFirst (f ∷ es)

first_quiet : (x : Thread) (es : List Event) → QuietFirst es → QuietFirst (first_events x ++ es)
first_quiet x es q = go x.began es q
  where
    go : (began : Bool) (fs : List Event) → QuietFirst fs → QuietFirst ((if began then [] else events.Begin ∷ []) ++ fs)
    go true fs r = r
    go false [] r = tt
    go false (f ∷ fs) r = (refl, refl, r)

-- ---- calls

one_or_none : (b : Bool) (e : Event) → QuietFirst (if b then [] else e ∷ [])
one_or_none true e = tt
one_or_none false e = tt

none_or_one : (b : Bool) (e : Event) → QuietFirst (if b then e ∷ [] else [])
none_or_one true e = tt
none_or_one false e = tt

loaded : (place addr size order : ℕ) → QuietFirst (loading place addr size order)
loaded place addr size order = go (acquires order)
  where
    go : (b : Bool) → QuietFirst (only_if b (events.Acquire addr Main) ++ events.Access place addr size true true ∷ [])
    go true = (refl, refl, tt)
    go false = tt

changed : (place addr size order : ℕ) → QuietFirst (changing place addr size order)
changed place addr size order = go (acquires order) (releases order)
  where
    go : (a b : Bool) → QuietFirst (events.Access place addr size false true ∷ [] ++ only_if a (events.Acquire addr Main)
        ++ only_if b (events.Release addr Main false))
    go true true = (refl, refl, (refl, refl, tt))
    go true false = (refl, refl, tt)
    go false true = (refl, refl, tt)
    go false false = tt

operated : (op : AtomicOp) (wrote : Bool) (place addr size order fail_order : ℕ) → QuietFirst (atomic_events op wrote place addr size order fail_order)
operated ops.Load wrote place addr size order fail_order = loaded place addr size order
operated ops.Store wrote place addr size order fail_order = (refl, refl, tt)
operated ops.Compare true place addr size order fail_order = changed place addr size order
operated ops.Compare false place addr size order fail_order = loaded place addr size fail_order
operated _ wrote place addr size order fail_order = changed place addr size order

called : (c : Call) (o : Outcome) → QuietFirst (events_by c o)
called (calls.Put v count) o = tt
called (calls.Exit status) o = tt
called (calls.Create pc argument sp) o = one_or_none (o.answer == full) (events.Create o.answer)
called calls.ThreadExit o = tt
called (calls.Join tid) o = none_or_one (o.answer == 0) (events.Join tid)
called calls.Yield o = tt
called (calls.Access addr size read) o = one_or_none (size == 0) (events.Access o.place addr size read false)
called (calls.Enter pc) o = tt
called calls.Leave o = tt
called (calls.Atomic op size addr v expected order fail_order) o = operated op o.wrote o.place addr size order fail_order
called calls.Fence o = tt
called (calls.Acquire addr) o = tt
called (calls.Release addr) o = tt
called calls.MutexCreate o = tt
called (calls.MutexDestroy addr) o = tt
called (calls.PostLock addr true) o = (refl, refl, tt)
called (calls.PostLock addr false) o = (refl, refl, (refl, refl, tt))
called (calls.PreUnlock addr true) o = (refl, refl, tt)
called (calls.PreUnlock addr false) o = (refl, refl, tt)

-- ---- a turn

served_quiet : (harts t : ℕ) (l : Local) (v : Value) (x : Thread) (r : Request) → QuietFirst (served harts t l v x r).told
served_quiet harts t l v x (done r) = first_quiet x [] tt
served_quiet harts t l v x (returned call answer object) = first_quiet x (events_by call (outcome x false (unwrap_or answer 0))) (called call _)
served_quiet harts t l v x (touch i effect addr n) = first_quiet x [] tt
served_quiet harts t l v x (operate call addr size n) = first_quiet x (events_by call _) (called call _)
served_quiet harts t l v x (put word count) = first_quiet x (events_by (calls.Put word count) (outcome x false 0)) tt
served_quiet harts t l v x (create pc argument stack) = go (is_full harts (desk_in v))
  where
    answers : (n : ℕ) → QuietFirst (first_events x ++ events_by (calls.Create pc argument stack) (outcome x false n))
    answers n = first_quiet x (events_by (calls.Create pc argument stack) (outcome x false n)) (called (calls.Create pc argument stack) (outcome x false n))

    go : (b : Bool) → QuietFirst (create_turn l (desk_in v) x pc argument stack b).told
    go true = answers (minus 11)
    go false = answers (length (desk_in v).made)
served_quiet harts t l v x (join n) =
    let o : Outcome = outcome x false (join_answer (slice_get (desk_in v).lives n)) in
    first_quiet x (events_by (calls.Join n) o) (called (calls.Join n) o)
served_quiet harts t l v x (stop end) = first_quiet x (events.End ∷ []) tt

stepped_quiet : (file : List ℕ) (harts t : ℕ) (l : Local) (v : Value) (o : Option Thread) → QuietFirst (stepped file harts t l v o).told
stepped_quiet file harts t l v None = tt
stepped_quiet file harts t l v (Some x) = served_quiet harts t l v x (request file t x)

quiet_at : (before after : List Event) (e f : Event) → QuietFirst (before ++ e ∷ (f ∷ after)) → (raises e ≡ 0) × (is_end e ≡ false)
quiet_at [] after e f q = (q.0, q.1)
quiet_at (x ∷ []) after e f q = quiet_at [] after e f q.2
quiet_at (x ∷ (y ∷ before)) after e f q = quiet_at (y ∷ before) after e f q.2

-- An event with another behind it neither raises an epoch nor ends the thread.
pub quiet_before : (file : List ℕ) (harts t : ℕ) (found : Local) (v : Value) (left : Turned) (before after : List Event) (event next : Event) →
    bare_turn file harts t steps found v ≡ left → left.told ≡ before ++ event ∷ (next ∷ after) → (raises event ≡ 0) × (is_end event ≡ false)
quiet_before file harts t found v left before after event next turned told =
    quiet_at before after event next (subst QuietFirst (ap (λ (r : Turned). r.told) turned ∙ told) (stepped_quiet file harts t found v found.thread))

each_quiet : (before : List Event) (event : Event) → QuietFirst (before ++ event ∷ []) → Each (λ (e : Event). (raises e ≡ 0) × (is_end e ≡ false)) before
each_quiet [] event q = tt
each_quiet (x ∷ []) event q = ((q.0, q.1), tt)
each_quiet (x ∷ (y ∷ ys)) event q = ((q.0, q.1), each_quiet (y ∷ ys) event q.2)

-- So it is of all before the last one.
pub quiet_until : (file : List ℕ) (harts t : ℕ) (found : Local) (v : Value) (left : Turned) (before : List Event) (event : Event) →
    bare_turn file harts t steps found v ≡ left → left.told ≡ before ++ event ∷ [] →
    Each (λ (e : Event). (raises e ≡ 0) × (is_end e ≡ false)) before
quiet_until file harts t found v left before event turned told =
    each_quiet before event (subst QuietFirst (ap (λ (r : Turned). r.told) turned ∙ told) (stepped_quiet file harts t found v found.thread))

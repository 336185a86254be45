-- What each call announces and does, one row a call.
use Rattle.std.specs.Prelude.{◌≡◌, ◌<◌, ℕ, ◌+◌, ◌-◌, ◌^◌, ◌==◌, ◌||◌, Bool, true, false, if◌then◌else◌, List, [], ◌∷◌, ◌++◌, Option, Some, None, bit_and, bit_or, bit_xor, ◌⊎◌}
use Rattle.std.specs.Int.{w32}
use Rattle.rv_exec.specs.Words.{extend}
use Rattle.run_record.specs.declared.event.Event.{Event}
use Rattle.run_record.specs.declared.event.Event.TheVariants as events
use Rattle.run_record.specs.declared.event.Part.TheVariants.{Main, Readers}
use Rattle.entry_calls.specs.declared.call.Call.{Call}
use Rattle.entry_calls.specs.declared.call.Call.TheVariants.{Put, Exit, Create, ThreadExit, Join, Yield, Access, Enter, Leave, Atomic, Fence, Acquire, Release, MutexCreate, MutexDestroy, PostLock, PreUnlock}
use Rattle.entry_calls.specs.declared.call.Outcome.{Outcome}
use Rattle.entry_calls.specs.declared.call.AtomicOp.{AtomicOp}
use Rattle.entry_calls.specs.declared.call.AtomicOp.TheVariants as ops
use Rattle.entry_calls.specs.Calls.{cut}

-- relaxed 0, consume 1, acquire 2, release 3, acq_rel 4, seq_cst 5
abbrev pub acquires : ℕ → Bool
acquires order = (order == 1) || ((order == 2) || ((order == 4) || (order == 5)))

abbrev pub releases : ℕ → Bool
releases order = (order == 3) || ((order == 4) || (order == 5))

-- an event where a test holds
abbrev pub only_if : Bool → Event → List Event
only_if test e = if test then e ∷ [] else []

-- what an operation on so many bytes at an address does
abbrev pub loading : ℕ → ℕ → ℕ → ℕ → List Event
loading place addr size order = only_if (acquires order) (events.Acquire addr Main) ++ events.Access place addr size true true ∷ []

-- what a store does to what was released at its address: its own release takes that place, or nothing does
abbrev pub channel_event : ℕ → ℕ → Event
channel_event addr order = if releases order then events.Release addr Main true else events.Clear addr

abbrev pub storing : ℕ → ℕ → ℕ → ℕ → List Event
storing place addr size order = events.Access place addr size false true ∷ channel_event addr order ∷ []

abbrev pub changing : ℕ → ℕ → ℕ → ℕ → List Event
changing place addr size order =
    events.Access place addr size false true ∷ []
    ++ only_if (acquires order) (events.Acquire addr Main)
    ++ only_if (releases order) (events.Release addr Main false)

-- the events of an atomic operation; a compare exchange that fails is a load of the fail order
abbrev pub atomic_events : AtomicOp → Bool → ℕ → ℕ → ℕ → ℕ → ℕ → List Event
atomic_events ops.Load wrote place addr size order fail_order = loading place addr size order
atomic_events ops.Store wrote place addr size order fail_order = storing place addr size order
atomic_events ops.Compare wrote place addr size order fail_order =
    if wrote then changing place addr size order else loading place addr size fail_order
atomic_events _ wrote place addr size order fail_order = changing place addr size order

-- -11 as a word
abbrev pub full : ℕ
full = 2 ^ 64 - 11

-- what a call announces
abbrev pub events_by : Call → Outcome → List Event
events_by (Put v count) o = events.Put v count ∷ []
events_by (Exit status) o = events.End ∷ []
events_by (Create pc argument sp) o = if o.answer == full then [] else events.Create o.answer ∷ []
events_by ThreadExit o = events.End ∷ []
events_by (Join tid) o = if o.answer == 0 then events.Join tid ∷ [] else []
events_by Yield o = []
events_by (Access addr size read) o = if size == 0 then [] else events.Access o.place addr size read false ∷ []
events_by (Enter pc) o = events.Enter pc ∷ []
events_by Leave o = events.Leave ∷ []
events_by (Atomic op size addr v expected order fail_order) o = atomic_events op o.wrote o.place addr size order fail_order
events_by Fence o = []
events_by (Acquire addr) o = events.Acquire addr Main ∷ []
events_by (Release addr) o = events.Release addr Main false ∷ []
events_by MutexCreate o = []
events_by (MutexDestroy addr) o = events.Destroy addr ∷ []
events_by (PostLock addr true) o = events.Lock addr true ∷ events.Acquire addr Main ∷ []
events_by (PostLock addr false) o = events.Lock addr false ∷ events.Acquire addr Main ∷ events.Acquire addr Readers ∷ []
events_by (PreUnlock addr true) o = events.Unlock addr true ∷ events.Release addr Readers false ∷ []
events_by (PreUnlock addr false) o = events.Unlock addr false ∷ events.Release addr Main true ∷ []

-- the answers that a create and a join have
abbrev pub IsAnswered : Call → Outcome → Type 0
IsAnswered (Create pc argument sp) o = (o.answer < 1024) ⊎ (o.answer ≡ full)
IsAnswered (Join tid) o = o.answer ≡ 0 → tid < 1024
IsAnswered _ o = Unit {0}

-- whether a call is made only by a thread with a slot
abbrev pub needs : Call → Bool
needs (Put v count) = false
needs Yield = false
needs MutexCreate = false
needs Fence = false
needs _ = true

-- the word that an atomic operation stores over the old one
abbrev pub stored_over : AtomicOp → ℕ → ℕ → ℕ → ℕ → Option ℕ
stored_over ops.Load size v expected old = None
stored_over ops.Store size v expected old = Some v
stored_over ops.Exchange size v expected old = Some v
stored_over ops.Add size v expected old = Some (cut size (old + v))
stored_over ops.Sub size v expected old = Some (cut size (old + (2 ^ 64 - v)))
stored_over ops.And size v expected old = Some (bit_and (cut size old) v)
stored_over ops.Or size v expected old = Some (bit_or (cut size old) v)
stored_over ops.Xor size v expected old = Some (bit_xor (cut size old) v)
stored_over ops.Compare size v expected old = if cut size old == expected then Some v else None

abbrev pub word_by : Call → ℕ → Option ℕ
word_by (Atomic op size addr v expected order fail_order) old = stored_over op size v expected old
word_by _ old = None

-- the old word as an answer: one of 32 bits is sign-extended, lesser ones are not; a store has none
abbrev pub old_answer : ℕ → ℕ → ℕ
old_answer size old = if size == 4 then extend w32 (cut 4 old) else cut size old

abbrev pub answered : AtomicOp → ℕ → ℕ → Option ℕ
answered ops.Store size old = None
answered _ size old = Some (old_answer size old)

abbrev pub answer_by : Call → ℕ → Option ℕ
answer_by (Atomic op size addr v expected order fail_order) old = answered op size old
answer_by _ old = None

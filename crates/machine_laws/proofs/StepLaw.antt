-- What each request and each step of a living thread does.
use Rattle.std.proofs.Common.{not, ◌≡◌, ◌<◌, ◌≤◌, ◌+◌, ◌-◌, ◌≢◌, ℕ, Bool, true, false, cond, nat_eq, nat_le, List, [], ◌∷◌, ◌++◌, length, slice_get, slice_set, Option, Some, None, refl, sym, ap, subst, ◌∙◌, arith, ne_eqb, take, unwrap_or}
use Rattle.std.specs.Prelude.{count_by, ◌%◌, ◌||◌, option_map, is_some, slice_index}
use Rattle.std.specs.Int.{w64, to_le_bytes}
use Rattle.std.proofs.lemmas.Bool.{cond_both, eqb-false, leb-false, or_parts}
use Rattle.std.proofs.lemmas.List.{length-set}
use Rattle.run_record.specs.declared.event.Event.{Event}
use Rattle.run_record.specs.declared.event.Event.TheVariants as events
use Rattle.run_record.specs.declared.event.Part.TheVariants.{Main, Readers}
use Rattle.rv_decode.specs.declared.instr.Instr.{Instr}
use Rattle.rv_decode.specs.Table.{instr_of}
use Rattle.rv_exec.specs.declared.exec.Effect.{Effect}
use Rattle.rv_exec.specs.declared.exec.Effect.TheVariants as effects
use Rattle.rv_exec.specs.declared.fault.GuestFault.TheVariants.{StackDeep, Misaligned}
use Rattle.rv_exec.specs.Registers.{value}
use Rattle.rv_exec.specs.Meaning.{done_by, finished_by}
use Rattle.elf_image.specs.File.{word_at, granule_of, constant_word}
use Rattle.guest_memory.specs.Fields.{field, with_field}
use Rattle.guest_memory.specs.Reservations.{stands}
use Rattle.entry_calls.specs.declared.call.Call.{Call}
use Rattle.entry_calls.specs.declared.call.Call.TheVariants as calls
use Rattle.entry_calls.specs.declared.call.AtomicOp.{AtomicOp}
use Rattle.entry_calls.specs.declared.call.AtomicOp.TheVariants as ops
use Rattle.entry_calls.specs.Calls.{call_of, before}
use Rattle.entry_calls.specs.Effects.{events_by, full, word_by, answer_by}
use Rattle.bare_machine.specs.declared.thread.Thread.{Thread}
use Rattle.bare_machine.specs.declared.touch.Touched.{Touched}
use Rattle.bare_machine.specs.Memory.{stripe, offset, touched, reserved, written}
use Rattle.bare_machine.specs.World.{World, lives, new_thread}
use Rattle.bare_machine.specs.Requests.{Request, done, returned, touch, operate, put, create, join, stop, faulted, call_request, told_request, operation_at, constant_operation, constant_request, request_at, effect_request, instruction_request, word_request, request}
use Rattle.bare_machine.specs.Step as steps
use Rattle.bare_machine.specs.Step.{Step, step, goes_on, serve, thread_step, answered, depth_after, outcome, desk, minus, desk_returns, create_step, join_answer, with_registers}
use Rattle.bare_machine.proofs.StepLemmas.{living, within}
use Rattle.machine_laws.specs.Threads.{Threads, but, is_full, threads_in, threads_after, AreThreads}
use Rattle.machine_laws.specs.Steps.{IsStep}
use Rattle.machine_laws.proofs.Lists.{but_same, same_threads, threads_of, threads_push, set_append, told_at, living_is}
use Rattle.machine_laws.proofs.Made.{began_not_first, Makes, begun, going, stopping, goes_threads, stays_threads}
use Rattle.machine_laws.proofs.Calls as made
use Rattle.machine_laws.proofs.Sizes.{IsSized, IsSizedIfAny, call_sized}

-- ---- requests

module _ (harts : ℕ) (now : Threads) (t : ℕ) (alive : now.lives t ≡ true) (first : false ≡ not (now.began t)) where
  -- the threads, where this one is so deep
  abbrev deeper : ℕ → Threads
  deeper depth = record now { depth = but now.depth t depth }

  kept : {es : List Event} {object : Option ℕ} (depth : ℕ) → now.depth t ≡ depth → Makes harts now t es object 3 now → Makes harts now t es object 3 (deeper depth)
  kept {es} {object} depth deep m = subst (Makes harts now t es object 3) (sym (same_threads (deeper depth) now refl (λ u. refl) (λ u. refl) (but_same now.depth t depth deep))) m

  -- the events of a request that its thread alone tells, wherever it is called
  abbrev IsMade : ℕ → Request → Type 0
  IsMade depth (returned call answer object) = (place : ℕ) → Makes harts now t (events_by call (record { place = place; wrote = false; answer = unwrap_or answer 0 })) object 3 (deeper (depth_after call depth))
  IsMade depth (operate call addr size g) = (place : ℕ) (wrote : Bool) → Makes harts now t (events_by call (record { place = place; wrote = wrote; answer = 0 })) (Some (stripe addr)) 3 now
  IsMade depth _ = Unit {0}

  module _ (file : List ℕ) (x : Thread) (deep : now.depth t ≡ x.depth) where
    abbrev Is : Request → Type 0
    Is r = IsMade x.depth r

    quiet : (object : Option ℕ) → Makes harts now t [] object 3 (deeper x.depth)
    quiet object = kept x.depth deep (made.no_event harts now t alive first object)

    enter_is : (pc : ℕ) → Is (cond (nat_le 4096 x.depth) (faulted t x StackDeep) (returned (calls.Enter pc) None None))
    enter_is pc =
        cond_both (nat_le 4096 x.depth) (faulted t x StackDeep) (returned (calls.Enter pc) None None) Is (λ e. tt)
        (λ e place.
        let below : x.depth < 4096 = leb-false 4096 x.depth e in
        subst (λ (n : ℕ). Makes harts now t (events.Enter pc ∷ []) None 3 (deeper (n + 1))) deep
        (made.enter_makes harts now t alive first pc (subst (λ (n : ℕ). n < 4096) (sym deep) below)))

    access_is : (addr size : ℕ) (read : Bool) → size ≤ 65536 → Is (returned (calls.Access addr size read) None None)
    access_is addr size read few place =
        cond_both (nat_eq size 0) [] (events.Access place addr size read false ∷ []) (λ (es : List Event). Makes harts now t es None 3 (deeper x.depth)) (λ e. quiet None)
        (λ e. let other : size ≢ 0 = eqb-false size 0 e in kept x.depth deep (made.access_makes harts now t alive first place addr size read (record { some = omega (arith, other); few = few })))

    module _ (op : AtomicOp) (size addr v expected order fail_order : ℕ) (some : 1 ≤ size) (few : size ≤ 8) where
      abbrev call : Call
      call = calls.Atomic op size addr v expected order fail_order

      atomic_made : (place : ℕ) (wrote : Bool) (answer : ℕ) → Makes harts now t (events_by call (record { place = place; wrote = wrote; answer = answer })) (Some (stripe addr)) 3 now
      atomic_made place wrote answer = made.atomic_makes harts now t alive first op wrote place addr size order fail_order (stripe addr) (record { some = some; few = omega (arith, few) })

      constant_operation_is : (like : AtomicOp) (word : ℕ) → Is (constant_operation t x like call addr size word)
      constant_operation_is ops.Load word = λ place. kept x.depth deep (atomic_made place false (unwrap_or (answer_by call (field word (offset addr) size)) 0))
      constant_operation_is _ word = tt

      operation_at_is : (granule constant : Option ℕ) → Is (operation_at t x op call addr size granule constant)
      operation_at_is (Some g) constant = λ place wrote. atomic_made place wrote 0
      operation_at_is None (Some word) = constant_operation_is op word
      operation_at_is None None = tt

      operation_is : Is (cond (nat_eq (addr % size) 0) (operation_at t x op call addr size (granule_of file addr) (constant_word file addr)) (faulted t x Misaligned))
      operation_is = cond_both (nat_eq (addr % size) 0) (operation_at t x op call addr size (granule_of file addr) (constant_word file addr)) (faulted t x Misaligned) Is (λ e. operation_at_is (granule_of file addr) (constant_word file addr)) (λ e. tt)

    call_is : (c : Call) → IsSized c → Is (call_request file t x c)
    call_is (calls.Put word count) s = tt
    call_is (calls.Exit status) s = tt
    call_is (calls.Create pc argument stack) s = tt
    call_is calls.ThreadExit s = tt
    call_is (calls.Join of) s = tt
    call_is calls.Yield s = λ place. quiet None
    call_is (calls.Access addr size read) s = access_is addr size read s
    call_is (calls.Enter pc) s = enter_is pc
    call_is calls.Leave s = λ place. subst (λ (n : ℕ). Makes harts now t (events.Leave ∷ []) None 3 (deeper (n - 1))) deep (made.leave_makes harts now t alive first)
    call_is (calls.Atomic op size addr v expected order fail_order) s = operation_is op size addr v expected order fail_order s.0 s.1
    call_is calls.Fence s = λ place. quiet None
    call_is (calls.Acquire addr) s = λ place. kept x.depth deep (made.acquire_makes harts now t alive first addr Main (stripe addr))
    call_is (calls.Release addr) s = λ place. kept x.depth deep (made.release_makes harts now t alive first addr Main false (stripe addr))
    call_is calls.MutexCreate s = λ place. quiet None
    call_is (calls.MutexDestroy addr) s = λ place. kept x.depth deep (made.destroy_makes harts now t alive first addr (stripe addr))
    call_is (calls.PostLock addr true) s = λ place. kept x.depth deep (made.lock_makes harts now t alive first addr (stripe addr) true)
    call_is (calls.PostLock addr false) s = λ place. kept x.depth deep (made.write_lock_makes harts now t alive first addr (stripe addr))
    call_is (calls.PreUnlock addr true) s = λ place. kept x.depth deep (made.unlock_makes harts now t alive first addr (stripe addr) true Readers false)
    call_is (calls.PreUnlock addr false) s = λ place. kept x.depth deep (made.unlock_makes harts now t alive first addr (stripe addr) false Main true)

    told_is : (o : Option Call) → IsSizedIfAny o → Is (told_request file t x o)
    told_is None s = tt
    told_is (Some c) s = call_is c s

    constant_is : (i : Instr) (effect : Effect) (word : ℕ) → Is (constant_request t x i effect word)
    constant_is i (effects.Load a n) word = tt
    constant_is i _ word = tt

    at_is : (i : Instr) (effect : Effect) (addr : ℕ) (granule constant : Option ℕ) → Is (request_at t x i effect addr granule constant)
    at_is i effect addr (Some g) constant = tt
    at_is i effect addr None (Some word) = constant_is i effect word
    at_is i effect addr None None = tt

    effect_is : (i : Instr) (effect : Effect) → Is (effect_request file t x i effect)
    effect_is i effects.Local = tt
    effect_is i effects.Call = told_is (call_of x.regs) (call_sized x.regs)
    effect_is i (effects.Fault fault) = tt
    effect_is i (effects.Load a n) = at_is i (effects.Load a n) a (granule_of file a) (constant_word file a)
    effect_is i (effects.Store a n v) = at_is i (effects.Store a n v) a (granule_of file a) (constant_word file a)
    effect_is i (effects.Amo a n arg) = at_is i (effects.Amo a n arg) a (granule_of file a) (constant_word file a)
    effect_is i (effects.Reserve a n) = at_is i (effects.Reserve a n) a (granule_of file a) (constant_word file a)
    effect_is i (effects.Conditional a n v) = at_is i (effects.Conditional a n v) a (granule_of file a) (constant_word file a)

  instruction_is : (file : List ℕ) (x : Thread) → now.depth t ≡ x.depth → (o : Option Instr) → IsMade x.depth (instruction_request file t x o)
  instruction_is file x deep None = tt
  instruction_is file x deep (Some i) = let d = done_by i.op i x.regs in effect_is file (record x { regs = d.registers }) deep i d.effect

  word_is : (file : List ℕ) (x : Thread) → now.depth t ≡ x.depth → (o : Option ℕ) → IsMade x.depth (word_request file t x o)
  word_is file x deep None = tt
  word_is file x deep (Some word) = instruction_is file x deep (instr_of word)

  request_is : (file : List ℕ) (x : Thread) → now.depth t ≡ x.depth → IsMade x.depth (request file t x)
  unfolding request
  request_is file x deep = word_is file x deep (word_at file x.regs.pc)

-- ---- what the world makes of them

module _ (w : World) (t : ℕ) (x : Thread) (is : slice_get w.threads t ≡ Some x) (alive : x.lives ≡ true) (are : AreThreads w.harts (threads_in w)) where
  abbrev IsOf : Step → Type 0
  IsOf s = IsStep w.harts (threads_in w) w.ended t s

  -- the threads, once this one has begun
  abbrev now : Threads
  now = begun (threads_in w) t

  inside : t < length w.threads
  inside = within w.threads t x is

  lives_here : (threads_in w).lives t ≡ true
  lives_here = told_at (λ (z : Thread). z.lives) false w.threads t x is ∙ alive

  began_here : (threads_in w).began t ≡ x.began
  began_here = told_at (λ (z : Thread). z.began) false w.threads t x is

  first_here : false ≡ not (now.began t)
  first_here = began_not_first (threads_in w) t

  depth_here : (threads_in w).depth t ≡ x.depth
  depth_here = told_at (λ (z : Thread). z.depth) 0 w.threads t x is

  -- the threads stay but for this one, which goes on
  goes : (v : World) (y : Thread) (es : List Event) (object : Option ℕ) → y.lives ≡ true → y.began ≡ x.began → v.harts ≡ w.harts → v.ended ≡ w.ended → v.threads ≡ w.threads →
      Makes w.harts now t es object 3 (record now { depth = but now.depth t y.depth }) → IsOf (goes_on v t y es object)
  goes v y es object living same harts ended threads m =
      going w v t y es object (record now { depth = but now.depth t y.depth }) lives_here (began_here ∙ sym same) harts ended
      (ap (λ (ts : List Thread). threads_of (slice_set ts t (record y { began = true }))) threads ∙ goes_threads w.threads t x (record y { began = true }) is inside alive living refl) m

  -- and is as deep as before
  stays : (v : World) (y : Thread) (es : List Event) (object : Option ℕ) → y.lives ≡ true → y.began ≡ x.began → y.depth ≡ x.depth → v.harts ≡ w.harts → v.ended ≡ w.ended → v.threads ≡ w.threads →
      Makes w.harts now t es object 3 now → IsOf (goes_on v t y es object)
  stays v y es object living same depth harts ended threads m = goes v y es object living same harts ended threads (kept w.harts now t lives_here first_here y.depth (depth_here ∙ sym depth) m)

  -- ---- creations

  full_is : steps.is_full w ≡ is_full w.harts (threads_in w)
  full_is = ap (λ (n : ℕ). nat_le w.harts n || nat_eq (length w.threads) 1024) (sym (living_is w.threads))

  created : (pc argument stack : ℕ) → steps.is_full w ≡ false →
      IsOf (desk_returns (record w { threads = w.threads ++ new_thread pc argument stack ∷ [] }) t x (calls.Create pc argument stack) (length w.threads))
  created pc argument stack room =
      let parts = or_parts (nat_le w.harts (count_by (λ (z : Thread). z.lives) w.threads)) (nat_eq (length w.threads) 1024) room in
      let few : length w.threads ≤ 1024 = are.few_made in
      let other : length w.threads ≢ 1024 = eqb-false (length w.threads) 1024 parts.1 in
      let below : length w.threads < 1024 = omega (arith, few, other) in
      let y : Thread = record (answered x (Some (length w.threads))) { began = true } in
      let new = new_thread pc argument stack in
      let some : cond (nat_eq (length w.threads) full) [] (events.Create (length w.threads) ∷ []) ≡ events.Create (length w.threads) ∷ [] = rw (ne_eqb (length w.threads) full (λ e. absurd (omega arith))) refl in
      let threads : threads_of (slice_set (w.threads ++ new ∷ []) t y) ≡ threads_after t now (events.Create (length w.threads)) =
      ap threads_of (set_append w.threads (new ∷ []) t y inside)
      ∙ (threads_push (slice_set w.threads t y) t new refl refl refl
      ∙ (ap (λ (n : ℕ). threads_after t (threads_of (slice_set w.threads t y)) (events.Create n)) (length-set w.threads t y)
      ∙ ap (λ (z : Threads). threads_after t z (events.Create (length w.threads))) (stays_threads w.threads t x y is inside alive alive refl refl))) in
      let m : Makes w.harts now t (events.Create (length w.threads) ∷ []) (Some desk) 3 (threads_after t now (events.Create (length w.threads))) =
      made.create_makes w.harts now t lives_here first_here (length w.threads) desk (record { next = refl; below = below; room = sym full_is ∙ room }) in
      going w (record w { threads = w.threads ++ new ∷ [] }) t (answered x (Some (length w.threads))) (cond (nat_eq (length w.threads) full) [] (events.Create (length w.threads) ∷ [])) (Some desk)
      (threads_after t now (events.Create (length w.threads))) lives_here began_here refl refl threads
      (subst (λ (es : List Event). Makes w.harts now t es (Some desk) 3 (threads_after t now (events.Create (length w.threads)))) (sym some) m)

  create_is : (pc argument stack : ℕ) → IsOf (create_step w t x pc argument stack)
  create_is pc argument stack =
      cond_both (steps.is_full w) (desk_returns w t x (calls.Create pc argument stack) (minus 11))
      (desk_returns (record w { threads = w.threads ++ new_thread pc argument stack ∷ [] }) t x (calls.Create pc argument stack) (length w.threads)) IsOf
      (λ e. stays w (answered x (Some (minus 11))) [] (Some desk) alive refl refl refl refl refl (made.no_event w.harts now t lives_here first_here (Some desk)))
      (λ e. created pc argument stack e)

  -- ---- joins

  joined : (of : ℕ) (o : Option Thread) → slice_get w.threads of ≡ o → Makes w.harts now t (cond (nat_eq (join_answer o) 0) (events.Join of ∷ []) []) (Some desk) 3 now
  joined of None e = made.no_event w.harts now t lives_here first_here (Some desk)
  joined of (Some z) e =
      cond_both z.lives (minus 16) 0 (λ (n : ℕ). Makes w.harts now t (cond (nat_eq n 0) (events.Join of ∷ []) []) (Some desk) 3 now)
      (λ l. made.no_event w.harts now t lives_here first_here (Some desk))
      (λ l. made.join_makes w.harts now t lives_here first_here of desk (record { made = within w.threads of z e; ended = told_at (λ (y : Thread). y.lives) false w.threads of z e ∙ l }))

  -- ---- each request

  served : (r : Request) → IsMade w.harts now t lives_here first_here x.depth r → IsOf (serve w t x r)
  served (done r) m = stays w (with_registers x r) [] None alive refl refl refl refl refl (made.no_event w.harts now t lives_here first_here None)
  served (returned call answer object) m =
      goes w (record (answered x answer) { depth = depth_after call x.depth }) (events_by call (outcome x false (unwrap_or answer 0))) object alive refl refl refl refl (m (before (value x.regs 1)))
  served (touch i effect addr g) m =
      let made_of : Touched = touched i.op effect (slice_index w.memory.words g) (stands w.memory.reservations t g) in
      stays (record w { memory = written (reserved w.memory t g effect) g made_of.written }) (with_registers x (finished_by i.op i x.regs made_of.value)) [] (Some (stripe addr)) alive refl refl refl refl refl
      (made.no_event w.harts now t lives_here first_here (Some (stripe addr)))
  served (operate call addr size g) m =
      let word = slice_index w.memory.words g in
      let old = field word (offset addr) size in
      let stored = word_by call old in
      stays (record w { memory = written w.memory g (option_map (with_field word (offset addr) size) stored) }) (answered x (answer_by call old)) (events_by call (outcome x (is_some stored) 0)) (Some (stripe addr)) alive refl refl refl refl refl
      (m (before (value x.regs 1)) (is_some stored))
  served (put word count) m =
      stays (record w { output = w.output ++ take count (to_le_bytes w64 word) }) (answered x (Some 0)) (events.Put word count ∷ []) (Some desk) alive refl refl refl refl refl (made.put_makes w.harts now t lives_here first_here word count desk)
  served (create pc argument stack) m = create_is pc argument stack
  served (join of) m =
      let answer = join_answer (slice_get w.threads of) in
      stays w (answered x (Some answer)) (events_by (calls.Join of) (outcome x false answer)) (Some desk) alive refl refl refl refl refl (joined of (slice_get w.threads of) refl)
  served (stop end) m = stopping w t x end is inside alive

  thread_is : (file : List ℕ) → IsOf (thread_step file w t (Some x))
  thread_is file = served (request file t x) (request_is w.harts now t lives_here first_here file x depth_here)

pub step_is : (file : List ℕ) (w : World) (t : ℕ) → lives w t ≡ true → AreThreads w.harts (threads_in w) → IsStep w.harts (threads_in w) w.ended t (step file w t)
step_is file w t h are =
    let l = living w t h in
    let alive : l.thread.lives ≡ true = sym (told_at (λ (z : Thread). z.lives) false w.threads t l.thread l.is) ∙ h in
    subst (λ (o : Option Thread). IsStep w.harts (threads_in w) w.ended t (thread_step file w t o)) (sym l.is) (thread_is w t l.thread l.is alive are file)

-- Each request that is served comes to a step of the bare machine.
use Rattle.std.proofs.Common.{◌≡◌, ◌≢◌, ◌<◌, ℕ, Bool, true, false, cond, nat_le, nat_eq, List, [], ◌∷◌, ◌++◌, length, slice_get, slice_set, Option, Some, None, refl, sym, ap, subst, ◌∙◌, arith, take, unwrap_or}
use Rattle.std.specs.Prelude.{◌||◌, ◌/◌, ◌%◌, count_by, slice_index, option_map, is_some, Ok}
use Rattle.std.specs.Int.{w64, to_le_bytes}
use Rattle.run_record.specs.declared.event.Event.{Event}
use Rattle.run_record.specs.declared.finished.GuestEnd.{GuestEnd}
use Rattle.rv_decode.specs.declared.instr.Instr.{Instr}
use Rattle.rv_exec.specs.declared.exec.Effect.{Effect}
use Rattle.rv_exec.specs.Meaning.{finished_by}
use Rattle.elf_image.specs.File.{image_of, granule_of, granules_of}
use Rattle.elf_image.specs.Regions.{block}
use Rattle.elf_image.proofs.MemoryLaws.{granule_below, granule_address-of}
use Rattle.guest_memory.specs.Fields.{field, with_field}
use Rattle.guest_memory.specs.Reservations.{stands}
use Rattle.entry_calls.specs.declared.call.Call.{Call}
use Rattle.entry_calls.specs.declared.call.Call.TheVariants as calls
use Rattle.entry_calls.specs.Effects.{events_by, word_by, answer_by}
use Rattle.bare_machine.specs.declared.thread.Thread.{Thread}
use Rattle.bare_machine.specs.declared.touch.Touched.{Touched}
use Rattle.bare_machine.specs.Memory.{GuestMemory, stripe, offset, touched, reserved, written}
use Rattle.bare_machine.specs.World.{World, new_thread}
use Rattle.bare_machine.specs.Requests.{Request, done, returned, touch, operate, put, create, join, stop, request}
use Rattle.bare_machine.specs.Step as steps
use Rattle.bare_machine.specs.Step.{Step, serve, stops, first_of, desk, answered, depth_after, outcome, minus, with_registers, create_step, operate_step}
use Rattle.bare_machine.proofs.Granules.{AtGranule, request_at_granule}
use Rattle.bare_machine.proofs.CallLemmas.{get_longer}
use Rattle.turn_orders.specs.Machine.{State, but}
use Rattle.turn_orders.proofs.Functions.{but_here, but_same, but_twice}
use Rattle.place_turns.specs.Places.{Local, Stripe, Desk, Value, of_stripe, stripe_at}
use Rattle.place_turns.specs.Turns as turns
use Rattle.place_turns.specs.Turns.{Turned, served, holds, reserved_after, stripe_reserved, stripe_written, touch_turn, operate_turn, create_turn}
use Rattle.place_turns.specs.Wholes.{Whole, HasThreads, HasMemory, IsStateOf, desk_of}
use Rattle.place_turns.proofs.Lists.{get_map, count_map}
use Rattle.place_turns.proofs.Threads.{set_thread, change_thread, push_thread}
use Rattle.place_turns.proofs.Memory.{reserved_by, written_by}
use Rattle.place_turns.proofs.States.{own, last, stripes, at_any, at_stripe, at_desk, Meets, Serves}

-- the eight bytes round an address are in its stripe
block_stripe : (addr : ℕ) → stripe (block addr) ≡ stripe addr
block_stripe addr = (let e : block addr / 8 ≡ addr / 8 = omega arith in ap (λ (n : ℕ). n % 64) e)

pub granule_stripe : (file : List ℕ) (addr n : ℕ) → image_of file ≡ Ok file → granule_of file addr ≡ Some n → stripe_at file n ≡ stripe addr
granule_stripe file addr n ok e = ap stripe (granule_address-of file addr n ok e) ∙ block_stripe addr

not_desk : (file : List ℕ) (n : ℕ) → stripe_at file n ≢ desk
not_desk file n q = omega arith

join_alike : (o : Option Thread) → turns.join_answer (option_map (λ (x : Thread). x.lives) o) ≡ steps.join_answer o
join_alike None = refl
join_alike (Some x) = refl

module _ (file : List ℕ) (harts : ℕ) (ok : image_of file ≡ Ok file) (g : Whole) (m : State Local Value) (h : IsStateOf file harts g m) (t : ℕ) (x : Thread) (is : slice_get g.world.threads t ≡ Some x) (here : g.arrived t ≡ true) where
  abbrev w : World
  w = g.world

  abbrev l : Local
  l = m.local t

  same_memory : HasMemory file g.world.memory (but (last m) t (m.local t).reserved) (stripes m)
  same_memory = subst (λ (r : ℕ → Option ℕ). HasMemory file g.world.memory r (stripes m)) (sym (but_same (last m) t)) h.memory

  -- ---- what leaves its place as it is

  goes_on_meets : (y : Thread) (es : List Event) (object : Option ℕ) → y.lives ≡ x.lives → (k : ℕ) → Meets file harts g m t k (steps.goes_on g.world t y es object) (turns.goes_on (m.local t) y es (m.value k))
  goes_on_meets y es object same k = record {
    state = at_any file harts (record g { world = (steps.goes_on g.world t y es object).world }) m t (record (m.local t) { thread = Some (record y { began = true }) }) k
        (change_thread h.threads t x (record y { began = true }) is here same) same_memory h.harts_are h.output h.ended;
    told = refl;
  }

  -- ---- memory

  module _ (addr n : ℕ) (at : granule_of file addr ≡ Some n) where
    inside : n < granules_of file
    inside = granule_below file addr n ok at

    -- a change of the granule's stripe, where the thread goes on
    changed : (y : Thread) (es : List Event) (r : Option ℕ) (s : Stripe) (after : World) → y.lives ≡ x.lives → after.threads ≡ g.world.threads → after.harts ≡ g.world.harts → after.output ≡ g.world.output → after.ended ≡ g.world.ended
        → HasMemory file after.memory (but (last m) t r) (but (stripes m) (stripe_at file n) s)
        → Meets file harts g m t (stripe_at file n) (steps.goes_on after t y es (Some (stripe addr))) (turns.goes_on (record (m.local t) { reserved = r }) y es (of_stripe s))
    changed y es r s after same threads harts_are output ended memory = record {
      state = at_stripe file harts (record g { world = (steps.goes_on after t y es (Some (stripe addr))).world }) m t (record (m.local t) { thread = Some (record y { began = true }); reserved = r }) (stripe_at file n) s (not_desk file n)
          (subst (λ (ts : List Thread). HasThreads (slice_set ts t (record y { began = true })) g.arrived (but (own m) t (Some (record y { began = true }))) (desk_of m).made (desk_of m).lives) (sym threads)
          (change_thread h.threads t x (record y { began = true }) is here same))
          memory (harts_are ∙ h.harts_are) (h.output ∙ sym output) (h.ended ∙ sym ended);
      told = refl;
    }

    touched_memory : (effect : Effect) (word : Option ℕ) →
        HasMemory file (written (reserved g.world.memory t n effect) n word) (but (last m) t (reserved_after (m.local t).reserved n effect))
        (but (stripes m) (stripe_at file n) (stripe_written (stripe_reserved (stripes m (stripe_at file n)) t n effect) n word))
    touched_memory effect word =
        let first : Stripe = stripe_reserved (stripes m (stripe_at file n)) t n effect in
        let both = written_by file (reserved_by file h.memory t n effect) n word inside in
        subst (HasMemory file (written (reserved g.world.memory t n effect) n word) (but (last m) t (reserved_after (m.local t).reserved n effect)))
        (ap (λ (s : Stripe). but (but (stripes m) (stripe_at file n) first) (stripe_at file n) (stripe_written s n word)) (but_here (stripes m) (stripe_at file n) (stripe_at file n) first refl)
        ∙ but_twice (stripes m) (stripe_at file n) first (stripe_written first n word)) both

    touch_by : (i : Instr) (effect : Effect) (made : Touched) →
        Meets file harts g m t (stripe_at file n)
        (steps.goes_on (record g.world { memory = written (reserved g.world.memory t n effect) n made.written }) t (with_registers x (finished_by i.op i x.regs made.value)) [] (Some (stripe addr)))
        (touch_turn t (m.local t) (stripes m (stripe_at file n)) x i effect n made)
    touch_by i effect made =
        changed (with_registers x (finished_by i.op i x.regs made.value)) [] (reserved_after (m.local t).reserved n effect) (stripe_written (stripe_reserved (stripes m (stripe_at file n)) t n effect) n made.written)
        (record g.world { memory = written (reserved g.world.memory t n effect) n made.written }) refl refl refl refl refl (touched_memory effect made.written)

    -- the world's word and reservation of the granule are those of its stripe
    abbrev in_world : Instr → Effect → Touched
    in_world i effect = touched i.op effect (slice_index g.world.memory.words n) (stands g.world.memory.reservations t n)

    abbrev in_stripe : Instr → Effect → Touched
    in_stripe i effect = touched i.op effect ((stripes m (stripe_at file n)).words n) (holds (m.local t) (stripes m (stripe_at file n)) t n)

    alike : (i : Instr) (effect : Effect) → in_world i effect ≡ in_stripe i effect
    alike i effect =
        ap (λ (word : ℕ). touched i.op effect word (stands g.world.memory.reservations t n)) (sym (h.memory.words n inside))
        ∙ ap (touched i.op effect ((stripes m (stripe_at file n)).words n)) (h.memory.reservations t n inside)

    pub touch_is : (i : Instr) (effect : Effect) →
        Serves file harts g m t x (touch i effect addr n)
    touch_is i effect = record {
      object = refl;
      meets = λ k e.
          subst (λ (j : ℕ). Meets file harts g m t j
          (serve g.world t x (touch i effect addr n))
          (served harts t (m.local t) (m.value j) x (touch i effect addr n))) (granule_stripe file addr n ok at ∙ sym e)
          (subst (λ (made : Touched). Meets file harts g m t (stripe_at file n)
          (serve g.world t x (touch i effect addr n))
          (touch_turn t (m.local t) (stripes m (stripe_at file n)) x i effect n made)) (alike i effect)
          (touch_by i effect (in_world i effect)));
    }

    operate_by : (call : Call) (size word : ℕ) →
        Meets file harts g m t (stripe_at file n)
        (operate_step g.world t x call addr size n word)
        (operate_turn (m.local t) (stripes m (stripe_at file n)) x call addr size n word)
    operate_by call size word =
        let old : ℕ = field word (offset addr) size in
        let stored = option_map (with_field word (offset addr) size) (word_by call (field word (offset addr) size)) in
        changed (answered x (answer_by call old)) (events_by call (outcome x (is_some (word_by call old)) 0)) (m.local t).reserved (stripe_written (stripes m (stripe_at file n)) n stored)
        (record g.world { memory = written g.world.memory n stored }) refl refl refl refl refl
        (subst (λ (r : ℕ → Option ℕ). HasMemory file (written g.world.memory n stored) r (but (stripes m) (stripe_at file n) (stripe_written (stripes m (stripe_at file n)) n stored))) (sym (but_same (last m) t)) (written_by file h.memory n stored inside))

    pub operate_is : (call : Call) (size : ℕ) → Serves file harts g m t x (operate call addr size n)
    operate_is call size = record {
      object = refl;
      meets = λ k e.
          subst (λ (j : ℕ). Meets file harts g m t j (serve g.world t x (operate call addr size n)) (served harts t (m.local t) (m.value j) x (operate call addr size n))) (granule_stripe file addr n ok at ∙ sym e)
          (subst (λ (word : ℕ). Meets file harts g m t (stripe_at file n) (serve g.world t x (operate call addr size n)) (operate_turn (m.local t) (stripes m (stripe_at file n)) x call addr size n word)) (sym (h.memory.words n inside))
          (operate_by call size (slice_index g.world.memory.words n)));
    }

  -- ---- the desk

  -- a call at the desk is done
  returns_by : (call : Call) (answer : ℕ) (d : Desk) (after : World) → after.harts ≡ g.world.harts → d.output ≡ after.output → d.ended ≡ after.ended → after.memory ≡ g.world.memory
      → HasThreads (slice_set after.threads t (record (answered x (Some answer)) { began = true })) g.arrived (but (own m) t (Some (record (answered x (Some answer)) { began = true }))) d.made d.lives
      → Meets file harts g m t desk (steps.desk_returns after t x call answer) (turns.returns (m.local t) x call answer d)
  returns_by call answer d after harts_are output ended memory threads = record {
    state = at_desk file harts (record g { world = (steps.desk_returns after t x call answer).world }) m t (record (m.local t) { thread = Some (record (answered x (Some answer)) { began = true }) }) d
        threads (subst (λ (mem : GuestMemory). HasMemory file mem (but (last m) t (m.local t).reserved) (stripes m)) (sym memory) same_memory) (harts_are ∙ h.harts_are) output ended;
    told = refl;
  }

  -- the threads stay but for this one
  stay : (answer : ℕ) → HasThreads (slice_set g.world.threads t (record (answered x (Some answer)) { began = true })) g.arrived (but (own m) t (Some (record (answered x (Some answer)) { began = true }))) (desk_of m).made (desk_of m).lives
  stay answer = change_thread h.threads t x (record (answered x (Some answer)) { began = true }) is here refl

  pub put_is : (word count : ℕ) → Serves file harts g m t x (put word count)
  put_is word count = record {
    object = refl;
    meets = λ k e. subst (λ (j : ℕ). Meets file harts g m t j (serve g.world t x (put word count)) (served harts t (m.local t) (m.value j) x (put word count))) (sym e)
        (returns_by (calls.Put word count) 0 (record (desk_of m) { output = (desk_of m).output ++ take count (to_le_bytes w64 word) }) (record g.world { output = g.world.output ++ take count (to_le_bytes w64 word) }) refl
        (ap (λ (o : List ℕ). o ++ take count (to_le_bytes w64 word)) h.output) h.ended refl (stay 0));
  }

  full_is : turns.is_full harts (desk_of m) ≡ steps.is_full g.world
  full_is =
      ap (λ (n : ℕ). nat_le n (count_by (λ (b : Bool). b) (desk_of m).lives) || nat_eq (length (desk_of m).made) 1024) (sym h.harts_are)
      ∙ (ap (λ (n : ℕ). nat_le g.world.harts n || nat_eq (length (desk_of m).made) 1024) (ap (count_by (λ (b : Bool). b)) h.threads.living ∙ count_map (λ (y : Thread). y.lives) g.world.threads)
      ∙ ap (λ (n : ℕ). nat_le g.world.harts (count_by (λ (y : Thread). y.lives) g.world.threads) || nat_eq n 1024) h.threads.count)

  abbrev create_by_full : Bool → ℕ → ℕ → ℕ → Step
  create_by_full full pc argument stack =
      cond full (steps.desk_returns g.world t x (calls.Create pc argument stack) (minus 11))
      (steps.desk_returns (record g.world { threads = g.world.threads ++ new_thread pc argument stack ∷ [] }) t x (calls.Create pc argument stack) (length g.world.threads))

  create_object : (full : Bool) (pc argument stack : ℕ) → (create_by_full full pc argument stack).object ≡ Some desk
  create_object true pc argument stack = refl
  create_object false pc argument stack = refl

  create_by : (full : Bool) (pc argument stack : ℕ) → Meets file harts g m t desk (create_by_full full pc argument stack) (create_turn (m.local t) (desk_of m) x pc argument stack full)
  create_by true pc argument stack = returns_by (calls.Create pc argument stack) (minus 11) (desk_of m) g.world refl h.output h.ended refl (stay (minus 11))
  create_by false pc argument stack =
      let new : Thread = new_thread pc argument stack in
      let more : Desk = record (desk_of m) { made = (desk_of m).made ++ new ∷ []; lives = (desk_of m).lives ++ true ∷ [] } in
      let after : World = record g.world { threads = g.world.threads ++ new ∷ [] } in
      subst (λ (n : ℕ). Meets file harts g m t desk (steps.desk_returns after t x (calls.Create pc argument stack) (length g.world.threads)) (turns.returns (m.local t) x (calls.Create pc argument stack) n more)) (sym h.threads.count)
      (returns_by (calls.Create pc argument stack) (length g.world.threads) more after refl h.output h.ended refl
      (change_thread (push_thread h.threads new refl) t x (record (answered x (Some (length g.world.threads))) { began = true }) (get_longer g.world.threads (new ∷ []) t x is) here refl))

  pub create_is : (pc argument stack : ℕ) → Serves file harts g m t x (create pc argument stack)
  create_is pc argument stack = record {
    object = create_object (steps.is_full g.world) pc argument stack;
    meets = λ k e. subst (λ (j : ℕ). Meets file harts g m t j (create_step g.world t x pc argument stack) (served harts t (m.local t) (m.value j) x (create pc argument stack))) (sym e)
        (subst (λ (full : Bool). Meets file harts g m t desk (create_step g.world t x pc argument stack) (create_turn (m.local t) (desk_of m) x pc argument stack full)) (sym full_is)
        (create_by (steps.is_full g.world) pc argument stack));
  }

  pub join_is : (n : ℕ) → Serves file harts g m t x (join n)
  join_is n = record {
    object = refl;
    meets = λ k e. subst (λ (j : ℕ). Meets file harts g m t j (serve g.world t x (join n)) (served harts t (m.local t) (m.value j) x (join n))) (sym e)
        (subst (λ (a : ℕ). Meets file harts g m t desk (serve g.world t x (join n)) (turns.returns (m.local t) x (calls.Join n) a (desk_of m)))
        (sym (ap turns.join_answer (ap (λ (bs : List Bool). slice_get bs n) h.threads.living ∙ get_map (λ (y : Thread). y.lives) g.world.threads n) ∙ join_alike (slice_get g.world.threads n)))
        (returns_by (calls.Join n) (steps.join_answer (slice_get g.world.threads n)) (desk_of m) g.world refl h.output h.ended refl (stay (steps.join_answer (slice_get g.world.threads n)))));
  }

  pub stop_is : (end : Option GuestEnd) → Serves file harts g m t x (stop end)
  stop_is end = record {
    object = refl;
    meets = λ k e. subst (λ (j : ℕ). Meets file harts g m t j (stops g.world t x end) (served harts t (m.local t) (m.value j) x (stop end))) (sym e)
        (record {
          state = at_desk file harts (record g { world = (stops g.world t x end).world }) m t (record (m.local t) { thread = Some (record x { lives = false; began = true }) })
              (record (desk_of m) { lives = slice_set (desk_of m).lives t false; ended = first_of (desk_of m).ended end })
              (set_thread h.threads t (record x { lives = false; began = true }) here) same_memory h.harts_are h.output (ap (λ (f : Option GuestEnd). first_of f end) h.ended);
          told = refl;
        });
  }

  -- ---- each request

  served_is : (r : Request) → AtGranule file r → Serves file harts g m t x r
  served_is (done r) at = record { object = refl; meets = λ k e. goes_on_meets (with_registers x r) [] None refl k }
  served_is (returned call answer object) at = record { object = refl; meets = λ k e. goes_on_meets (record (answered x answer) { depth = depth_after call x.depth }) (events_by call (outcome x false (unwrap_or answer 0))) object refl k }
  served_is (touch i effect addr n) at = touch_is addr n at i effect
  served_is (operate call addr size n) at = operate_is addr n at call size
  served_is (put word count) at = put_is word count
  served_is (create pc argument stack) at = create_is pc argument stack
  served_is (join n) at = join_is n
  served_is (stop end) at = stop_is end

  pub request_is : Serves file harts g m t x (request file t x)
  request_is = served_is (request file t x) (request_at_granule file t x)

-- Calls one after another: the machine by threads and places goes with the bare machine.
use Rattle.std.proofs.Common.{◌≡◌, ◌<◌, ℕ, zero, suc, true, false, List, [], ◌∷◌, ◌⊎◌, inl, inr, length, slice_get, Option, Some, None, refl, sym, ap, subst, ◌∙◌, arith}
use Rattle.std.specs.Prelude.{Ok}
use Rattle.std.proofs.lemmas.Bool.{cases_Bool}
use Rattle.run_record.specs.declared.event.Event.{Event}
use Rattle.elf_image.specs.File.{image_of}
use Rattle.bare_machine.specs.declared.thread.Thread.{Thread}
use Rattle.bare_machine.specs.Requests.{object_of, request}
use Rattle.bare_machine.specs.Step.{Step, step, desk, thread_step}
use Rattle.turn_orders.specs.Machine.{Call, State, but, next, after, tells}
use Rattle.turn_orders.specs.Splits.{AllMay, folded}
use Rattle.turn_orders.proofs.Functions.{but_same}
use Rattle.place_turns.specs.Places.{Local, Desk, Value, IsAt}
use Rattle.place_turns.specs.Turns.{Turned, Act, arrives, steps, arrived, stepped, bare_turn}
use Rattle.place_turns.specs.Wholes.{Whole, HasMemory, IsStateOf, May, MayAct, IsPlacedAct, ArePlaced, whole_after, whole_next, events_at, events_along, desk_of}
use Rattle.place_turns.proofs.Threads.{take_thread}
use Rattle.place_turns.proofs.States.{last, stripes, at_any, Meets, Serves}
use Rattle.place_turns.proofs.Serving.{request_is}

-- an element inside a list
record Found {X : Type 0} (xs : List X) (i : ℕ) : Type 0 where
  pub element : X
  pub is : slice_get xs i ≡ Some element

find_inside : {X : Type 0} (xs : List X) (i : ℕ) → i < length xs → Found xs i
find_inside [] i l = absurd (omega arith)
find_inside (x ∷ xs) zero l = record { element = x; is = refl }
find_inside (x ∷ xs) (suc i) l = let r = find_inside xs i (omega arith) in record { element = r.element; is = r.is }

arrived_reserved : (t : ℕ) (l : Local) (d : Desk) (o : Option Thread) → (arrived t l d o).reserved ≡ l.reserved
arrived_reserved t l d None = refl
arrived_reserved t l d (Some x) = refl

module _ (file : List ℕ) (harts : ℕ) (ok : image_of file ≡ Ok file) where
  -- one act of a thread at a place
  record Goes (g : Whole) (m : State Local Value) (t k : ℕ) (a : Act) : Type 0 where
    pub state : IsStateOf file harts (whole_after file g t a) (record { local = but m.local t (bare_turn file harts t a (m.local t) (m.value k)).local; value = but m.value k (bare_turn file harts t a (m.local t) (m.value k)).value })
    pub told : events_at file g t a ≡ (bare_turn file harts t a (m.local t) (m.value k)).told

  module _ (g : Whole) (m : State Local Value) (h : IsStateOf file harts g m) (t : ℕ) where
    -- ---- an arrival

    arrived_by : (z : Thread) → slice_get g.world.threads t ≡ Some z → (g.arrived t ≡ true) ⊎ (g.arrived t ≡ false) → (arrived t (m.local t) (desk_of m) (m.local t).thread).thread ≡ slice_get g.world.threads t
    arrived_by z is (inl e) =
        let own : (m.local t).thread ≡ slice_get g.world.threads t = h.threads.here t e in
        ap (λ (o : Option Thread). (arrived t (m.local t) (desk_of m) o).thread) (own ∙ is) ∙ own
    arrived_by z is (inr e) = ap (λ (o : Option Thread). (arrived t (m.local t) (desk_of m) o).thread) (h.threads.absent t e) ∙ h.threads.waiting t e

    arrival : (k : ℕ) → k ≡ desk → t < length g.world.threads → Goes g m t k arrives
    arrival k e inside =
        let found = find_inside g.world.threads t inside in
        let l : Local = arrived t (m.local t) (desk_of m) (m.local t).thread in
        let stays : HasMemory file g.world.memory (but (last m) t l.reserved) (stripes m) =
        subst (λ (r : ℕ → Option ℕ). HasMemory file g.world.memory r (stripes m)) (sym (ap (but (last m) t) (arrived_reserved t (m.local t) (desk_of m) (m.local t).thread) ∙ but_same (last m) t)) h.memory in
        subst (λ (j : ℕ). Goes g m t j arrives) (sym e)
        (record {
          state = at_any file harts (whole_after file g t arrives) m t l desk (take_thread h.threads t l.thread inside (arrived_by found.element found.is (cases_Bool (g.arrived t)))) stays h.harts_are h.output h.ended;
          told = refl;
        })

    -- ---- an instruction

    module _ (x : Thread) (is : slice_get g.world.threads t ≡ Some x) (here : g.arrived t ≡ true) where
      step_is : step file g.world t ≡ thread_step file g.world t (Some x)
      step_is = ap (thread_step file g.world t) is

      serves : Serves file harts g m t x (request file t x)
      serves = request_is file harts ok g m h t x is here

      object_here : (step file g.world t).object ≡ object_of (request file t x)
      object_here = ap (λ (s : Step). s.object) step_is ∙ serves.object

      instruction : (k : ℕ) → IsAt k (step file g.world t).object → Goes g m t k steps
      instruction k e =
          let met = subst (λ (s : Step). Meets file harts g m t k s (stepped file harts t (m.local t) (m.value k) (Some x))) (sym step_is) (serves.meets k (subst (IsAt k) object_here e)) in
          let own : (m.local t).thread ≡ Some x = h.threads.here t here ∙ is in
          let turn = ap (stepped file harts t (m.local t) (m.value k)) own in
          record {
            state = subst (λ (o : Turned). IsStateOf file harts (record g { world = (step file g.world t).world }) (record { local = but m.local t o.local; value = but m.value k o.value })) (sym turn) met.state;
            told = met.told ∙ ap (λ (o : Turned). o.told) (sym turn);
          }

    goes : (k : ℕ) (a : Act) → MayAct file g t k a → Goes g m t k a
    goes k arrives may = arrival k may.0 may.1
    goes k steps may = let found = find_inside g.world.threads t (h.threads.inside t may.0) in instruction found.element found.is may.0 k may.1

    -- a thread that is with itself has arrived, and is the world's
    is_here : (x : Thread) → (m.local t).thread ≡ Some x → (g.arrived t ≡ true) ⊎ (g.arrived t ≡ false) → (g.arrived t ≡ true) × (slice_get g.world.threads t ≡ Some x)
    is_here x e (inl a) = (a, sym (h.threads.here t a) ∙ e)
    is_here x e (inr a) = absurd (let n = h.threads.absent t a in cc)

    pub object_is : (x : Thread) → (m.local t).thread ≡ Some x → (step file g.world t).object ≡ object_of (request file t x)
    object_is x e = let r = is_here x e (cases_Bool (g.arrived t)) in object_here x r.1 r.0

    may_act : (k : ℕ) (a : Act) → IsPlacedAct file m t k a → MayAct file g t k a
    may_act k arrives p = (p.0, subst (λ (n : ℕ). t < n) h.threads.count p.1)
    may_act k steps p = (
      (is_here p.thread p.arrived (cases_Bool (g.arrived t))).0,
      subst (IsAt k) (sym (object_is p.thread p.arrived)) p.place,
    )

  pub state_along : (g : Whole) (m : State Local Value) (cs : List (Call Act)) → IsStateOf file harts g m → AllMay (whole_next file) (May file) g cs → IsStateOf file harts (folded (whole_next file) g cs) (after (bare_turn file harts) m cs)
  state_along g m [] h may = h
  state_along g m (c ∷ cs) h may = state_along (whole_next file g c) (next (bare_turn file harts) m c) cs (goes g m h c.thread c.place c.act may.0).state may.1

  pub told_along : (g : Whole) (m : State Local Value) (cs : List (Call Act)) → IsStateOf file harts g m → AllMay (whole_next file) (May file) g cs → tells (bare_turn file harts) m cs ≡ events_along file g cs
  told_along g m [] h may = refl
  told_along g m (c ∷ cs) h may =
      let one = goes g m h c.thread c.place c.act may.0 in
      let rest = told_along (whole_next file g c) (next (bare_turn file harts) m c) cs one.state may.1 in
      ap (λ (es : List Event). es ∷ tells (bare_turn file harts) (next (bare_turn file harts) m c) cs) (sym one.told) ∙ ap (λ (ess : List (List Event)). events_at file g c.thread c.act ∷ ess) rest

  pub may_along : (g : Whole) (m : State Local Value) (cs : List (Call Act)) → IsStateOf file harts g m → ArePlaced file harts m cs → AllMay (whole_next file) (May file) g cs
  may_along g m [] h p = tt
  may_along g m (c ∷ cs) h p =
      let may = may_act g m h c.thread c.place c.act p.0 in
      (may, may_along (whole_next file g c) (next (bare_turn file harts) m c) cs (goes g m h c.thread c.place c.act may).state p.1)

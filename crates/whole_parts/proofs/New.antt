-- Threads at the desk stand there as they were made; and no thread is ever taken out of the world.
use Rattle.std.proofs.Common.{◌≡◌, ◌≤◌, ℕ, zero, suc, Bool, true, false, List, [], ◌∷◌, ◌++◌, length, Option, Some, None, refl, sym, ap, subst, ◌∙◌, arith, length-append}
use Rattle.std.specs.Prelude.{slice_get, slice_set, fold}
use Rattle.std.proofs.lemmas.List.{length-set}
use Rattle.std.proofs.lemmas.List.Sums.{fold-append}
use mathlib.Core.Logic.{dite}
use native.Mathlib.Decide.{ℕ_discrete}
use Rattle.run_record.specs.declared.entry.Entry.{Entry}
use Rattle.run_record.specs.declared.limits.Limits.{Limits}
use Rattle.run_laws.specs.Faithful.{after, state_after}
use Rattle.bare_machine.specs.declared.thread.Thread.{Thread}
use Rattle.bare_machine.specs.World.{World, new_thread, start}
use Rattle.bare_machine.specs.Requests.{Request, done, returned, touch, operate, put, create, join, stop, request}
use Rattle.bare_machine.specs.Step.{desk, step, thread_step, serve, create_step}
use Rattle.bare_machine.specs.Step as steps
use Rattle.machine_laws.specs.Machine.{bare_of}
use Rattle.turn_orders.specs.Lists.{Each}
use Rattle.turn_orders.specs.Machine.{State}
use Rattle.turn_orders.specs.LineUp.{Stamped}
use Rattle.turn_orders.proofs.Functions.{but_here, but_else}
use Rattle.turn_orders.proofs.Members.{each_append}
use Rattle.place_turns.specs.Places.{Local, Value, desk_in}
use Rattle.place_turns.specs.Turns as turns
use Rattle.shared_table.specs.declared.object.DeskState.{DeskState}
use Rattle.shared_table.specs.declared.object.Object.{Object}
use Rattle.shared_table.specs.declared.object.Object.TheVariants.{Stripe, Desk}
use Rattle.shared_table.specs.Layouts.{IsFirstDesk}
use Rattle.woven_turns.specs.Weave.{LinesUp}
use Rattle.woven_turns.specs.Following.{left_by, left_after}
use Rattle.woven_turns.proofs.Following.{found_value, rest_lines}
use Rattle.placed_detector.specs.Standing.{Hand, Held}
use Rattle.watched_turns.specs.Turns.{Act}
use Rattle.deed_histories.specs.Deeds.{Made, AreMade, IsDeed, Takes, Leaves, Makes}
use Rattle.deed_histories.specs.Lines.{HandDeed, IsHandDeed}
use Rattle.table_deeds.specs.Objects.{part_in}
use Rattle.table_deeds.specs.Rounds.{IsNextDesk}

-- ---- as they were made

-- the thread lives and has made no instruction
abbrev pub IsNew : Thread → Type 0
IsNew x = (x.began ≡ false) × (x.lives ≡ true)

-- so do all threads that stand at the desk
abbrev pub AreNew : Value → Type 0
AreNew v = Each IsNew (desk_in v).made

created_new : (l : Local) (v : Value) (x : Thread) (pc argument stack : ℕ) (full : Bool) → AreNew v →
    AreNew (turns.create_turn l (desk_in v) x pc argument stack full).value
created_new l v x pc argument stack true n = n
created_new l v x pc argument stack false n = each_append IsNew (desk_in v).made (new_thread pc argument stack ∷ []) n ((refl, refl), tt)

served_new : (harts t : ℕ) (l : Local) (v : Value) (x : Thread) (r : Request) → AreNew v → AreNew (turns.served harts t l v x r).value
served_new harts t l v x (done r) n = n
served_new harts t l v x (returned call answer object) n = n
served_new harts t l v x (touch i effect addr k) n = tt
served_new harts t l v x (operate call addr size k) n = tt
served_new harts t l v x (put word count) n = n
served_new harts t l v x (create pc argument stack) n = created_new l v x pc argument stack (turns.is_full harts (desk_in v)) n
served_new harts t l v x (join of) n = n
served_new harts t l v x (stop end) n = n

stepped_new : (file : List ℕ) (harts t : ℕ) (l : Local) (v : Value) (o : Option Thread) → AreNew v → AreNew (turns.stepped file harts t l v o).value
stepped_new file harts t l v None n = n
stepped_new file harts t l v (Some x) n = served_new harts t l v x (request file t x) n

made_new : (file : List ℕ) (harts era t k : ℕ) (xs : List Made) (found left : Hand) (place_found place_left : Held) →
    AreMade file harts era t k xs found left place_found place_left → AreNew place_found.bare → AreNew place_left.bare
made_new file harts era t k [] found left pf pl made n = absurd made
made_new file harts era t k (x ∷ []) found left pf pl made n =
    subst AreNew (ap (λ (o : turns.Turned). o.value) made.0.stepped) (stepped_new file harts t found.bare pf.bare found.bare.thread n)
made_new file harts era t k (x ∷ (y ∷ rest)) found left pf pl made n =
    let hand = made.0 in
    let held = made.1 in
    let one = subst AreNew (ap (λ (o : turns.Turned). o.value) made.2.stepped) (stepped_new file harts t found.bare pf.bare found.bare.thread n) in
    made_new file harts era t k (y ∷ rest) hand left held pl made.5 one

deed_new : (file : List ℕ) (limits : Limits) (era t k : ℕ) (found left : Hand) (place_found place_left : Held) (e : Entry) (acts : List Act) →
    IsDeed file limits era t k found left place_found place_left e acts → AreNew place_found.bare → AreNew place_left.bare
deed_new file limits era t k found left pf pl e _ (Takes label at takes tells) n = subst (λ (x : Held). AreNew x.bare) (sym takes.place) n
deed_new file limits era t k found left pf pl e _ (Leaves label at leaves same tells) n = subst (λ (x : Held). AreNew x.bare) (sym leaves.place) n
deed_new file limits era t k found left pf pl e _ (Makes xs made tells) n = made_new file limits.harts era t k xs found left pf pl made n

module _ (file : List ℕ) (limits : Limits) where
  -- deeds that line up leave all threads at the desk as they were made
  pub line_new : (era : ℕ) (ds : List HandDeed) (c : State (Stamped Hand) (Stamped Held)) → LinesUp c ds → Each (IsHandDeed file limits era) ds →
      AreNew (c.value desk).state.bare → AreNew ((left_after c ds).value desk).state.bare
  line_new era [] c line each n = n
  line_new era (d ∷ ds) c line each n =
      let here : AreNew ((left_by c d).value desk).state.bare = dite (ℕ_discrete desk d.call.place)
      (λ e. subst (λ (x : Stamped Held). AreNew x.state.bare) (sym (but_here c.value d.call.place desk d.left e))
      (deed_new file limits era d.call.thread d.call.place d.local_found.state d.local_left.state d.found.state d.left.state
      d.told.entry d.told.acts each.0.deed
      (subst (λ (x : Stamped Held). AreNew x.state.bare) (ap c.value e ∙ found_value c d ds line) n)))
      (λ ne. subst (λ (x : Stamped Held). AreNew x.state.bare) (sym (but_else c.value d.call.place desk d.left ne)) n) in
      line_new era ds (left_by c d) (rest_lines c d ds line) each.1 here

  -- and so does the beginning of a round
  pub next_new : (ends : Bool) (x y : Object) → IsNextDesk ends x y → AreNew (part_in file desk x) → AreNew (part_in file desk y)
  next_new true (Desk d) (Desk e) q n = subst (λ (s : DeskState). Each IsNew s.machine.made) (sym q) n
  next_new false (Desk d) (Desk e) q n = subst (λ (s : DeskState). Each IsNew s.machine.made) (sym q) n
  next_new ends (Desk d) (Stripe s) q n = absurd q
  next_new ends (Stripe s) y q n = absurd q

  pub first_new : (x : Object) → IsFirstDesk file limits (Some x) → AreNew (part_in file desk x)
  first_new (Stripe s) q = absurd q
  first_new (Desk d) q = subst (λ (s : DeskState). Each IsNew s.machine.made) (sym q) ((refl, refl), tt)

-- ---- none is taken out

one_set : (ts : List Thread) (t : ℕ) (x : Thread) → length ts ≤ length (slice_set ts t x)
one_set ts t x = (let q = length-set ts t x in omega (arith, q))

create_grows : (w : World) (t : ℕ) (x : Thread) (pc argument stack : ℕ) (full : Bool) → steps.is_full w ≡ full →
    length w.threads ≤ length (create_step w t x pc argument stack).world.threads
create_grows w t x pc argument stack true q = rw q (one_set w.threads t (record (steps.answered x (Some (steps.minus 11))) { began = true }))
create_grows w t x pc argument stack false q =
    let more = w.threads ++ new_thread pc argument stack ∷ [] in
    let l = one_set more t (record (steps.answered x (Some (length w.threads))) { began = true }) in
    let a = length-append w.threads (new_thread pc argument stack ∷ []) in
    rw q (omega (arith, l, a))

serve_grows : (w : World) (t : ℕ) (x : Thread) (r : Request) → length w.threads ≤ length (serve w t x r).world.threads
serve_grows w t x (done r) = one_set w.threads t (record (steps.with_registers x r) { began = true })
serve_grows w t x (returned call answer object) = one_set w.threads t _
serve_grows w t x (touch i effect addr k) = one_set w.threads t _
serve_grows w t x (operate call addr size k) = one_set w.threads t _
serve_grows w t x (put word count) = one_set w.threads t _
serve_grows w t x (create pc argument stack) = create_grows w t x pc argument stack (steps.is_full w) refl
serve_grows w t x (join of) = one_set w.threads t _
serve_grows w t x (stop end) = one_set w.threads t _

step_grows : (file : List ℕ) (w : World) (t : ℕ) (o : Option Thread) → length w.threads ≤ length (thread_step file w t o).world.threads
step_grows file w t None = omega arith
step_grows file w t (Some x) = serve_grows w t x (request file t x)

module _ (file : List ℕ) (harts : ℕ) where
  after_grows : (w : World) (t n : ℕ) → length w.threads ≤ length (after (bare_of file harts) w t n).threads
  after_grows w t zero = omega arith
  after_grows w t (suc n) =
      let before = after (bare_of file harts) w t n in
      let l = after_grows w t n in
      let m = step_grows file before t (slice_get before.threads t) in
      omega (arith, l, m)

  fold_grows : (w : World) (es : List Entry) →
      length w.threads ≤ length (fold (λ (s : World) (e : Entry). after (bare_of file harts) s e.tid e.steps) w es).threads
  fold_grows w [] = omega arith
  fold_grows w (e ∷ es) = (let l = after_grows w e.tid e.steps in let m = fold_grows (after (bare_of file harts) w e.tid e.steps) es in omega (arith, l, m))

  -- entries leave no fewer threads
  pub threads_grow : (earlier es : List Entry) →
      length (state_after (bare_of file harts) earlier).threads ≤ length (state_after (bare_of file harts) (earlier ++ es)).threads
  threads_grow earlier es =
      let q = ap (λ (w : World). length w.threads)
      (fold-append (λ (s : World) (e : Entry). after (bare_of file harts) s e.tid e.steps) (start file harts) earlier es) in
      let l = fold_grows (state_after (bare_of file harts) earlier) es in
      omega (arith, q, l)

-- Whether an entry has an instruction that needs a slot, by what its deed found.
use Rattle.std.proofs.Common.{◌≡◌, ◌<◌, ◌+◌, ℕ, zero, suc, Bool, true, List, [], ◌∷◌, Option, Some, None, inl, inr, refl, sym, ap, ap₂, subst, ◌∙◌, arith}
use Rattle.std.specs.Prelude.{slice_get, Ok, ◌||◌}
use Rattle.std.specs.List.{list_any}
use Rattle.std.proofs.lemmas.Bool.{cases_Bool}
use Rattle.elf_image.specs.File.{image_of}
use Rattle.run_laws.specs.Numbers.{up_from}
use Rattle.run_laws.specs.Faithful.{Bare, after}
use Rattle.bare_machine.specs.declared.thread.Thread.{Thread}
use Rattle.bare_machine.specs.World.{World}
use Rattle.bare_machine.specs.Requests.{Request, done, returned, touch, operate, put, create, join, stop, object_of, request}
use Rattle.bare_machine.specs.Preview.{thread_needs}
use Rattle.bare_machine.specs.Step.{step}
use Rattle.machine_laws.specs.Machine.{bare_of}
use Rattle.turn_orders.specs.Machine.{State, single, next}
use Rattle.turn_orders.proofs.Functions.{but_here}
use Rattle.place_turns.specs.Places as machine
use Rattle.place_turns.specs.Places.{IsAt}
use Rattle.place_turns.specs.Turns as turns
use Rattle.place_turns.specs.Wholes.{Whole, IsStateOf, whole_after}
use Rattle.place_turns.proofs.Calls.{object_is, state_along}
use Rattle.hart_parts.specs.Parts.{after_steps}

-- ---- numbers in a row

any_number : (p : ℕ → Bool) (k n : ℕ) → list_any p (up_from k n) ≡ true → (j : ℕ) × (j < n) × (p (k + j) ≡ true)
any_number p k zero q = absurd (cc)
any_number p k (suc n) q = elim (cases_Bool (p k)) [
  | inl e ↦ let z : k ≡ k + 0 = omega arith in (0, omega arith, subst (λ (i : ℕ). p i ≡ true) z e)
  | inr e ↦
      let rest : list_any p (up_from (suc k) n) ≡ true = sym (ap (λ (b : Bool). b || list_any p (up_from (suc k) n)) e) ∙ q in
      let r = any_number p (suc k) n rest in
      let l = r.1 in
      let z : suc k + r.0 ≡ k + suc r.0 = omega arith in
      (suc r.0, omega (arith, l), subst (λ (i : ℕ). p i ≡ true) z r.2)
]

number_any : (p : ℕ → Bool) (k n j : ℕ) → j < n → p (k + j) ≡ true → list_any p (up_from k n) ≡ true
number_any p k zero j l q = absurd (omega (arith, l))
number_any p k (suc n) zero l q =
    let z : k + 0 ≡ k = omega arith in
    ap (λ (b : Bool). b || list_any p (up_from (suc k) n)) (subst (λ (i : ℕ). p i ≡ true) z q)
number_any p k (suc n) (suc j) l q =
    let z : k + suc j ≡ suc k + j = omega arith in
    let rest = number_any p (suc k) n j (omega (arith, l)) (subst (λ (i : ℕ). p i ≡ true) z q) in
    elim (cases_Bool (p k)) [
      | inl e ↦ ap (λ (b : Bool). b || list_any p (up_from (suc k) n)) e
      | inr e ↦ ap (λ (b : Bool). b || list_any p (up_from (suc k) n)) e ∙ rest
    ]

module _ (file : List ℕ) (harts : ℕ) (ok : image_of file ≡ Ok file) (t k : ℕ) where
  abbrev bare : Bare World
  bare = bare_of file harts

  -- an instruction without an object leaves its place's value
  value_stays : (l : machine.Local) (v : machine.Value) (x : Thread) (r : Request) → object_of r ≡ None → (turns.served harts t l v x r).value ≡ v
  value_stays l v x (done r) q = refl
  value_stays l v x (returned call answer object) q = refl
  value_stays l v x (touch i effect addr n) q = absurd (cc)
  value_stays l v x (operate call addr size n) q = absurd (cc)
  value_stays l v x (put word count) q = absurd (cc)
  value_stays l v x (create pc argument stack) q = absurd (cc)
  value_stays l v x (join n) q = absurd (cc)
  value_stays l v x (stop end) q = absurd (cc)

  turn_stays : (l : machine.Local) (v : machine.Value) (o : Option Thread) → ((x : Thread) → o ≡ Some x → object_of (request file t x) ≡ None) →
      (turns.stepped file harts t l v o).value ≡ v
  turn_stays l v None none = refl
  turn_stays l v (Some x) none = value_stays l v x (request file t x) (none x refl)

  -- so many instructions from a world on, and beside it
  record Came (g : Whole) (s : State machine.Local machine.Value) (n : ℕ) : Type 0 where
    state : State machine.Local machine.Value
    is : IsStateOf file harts (record { world = after bare g.world t n; arrived = g.arrived }) state
    local : state.local t ≡ after_steps file harts t (s.local t) (s.value k) n
    value : state.value k ≡ s.value k

  come : (g : Whole) (s : State machine.Local machine.Value) → IsStateOf file harts g s → g.arrived t ≡ true → (n : ℕ) →
      ((j : ℕ) → j < n → (step file (after bare g.world t j) t).object ≡ None) → Came g s n
  come g s h here zero apart = record { state = s; is = h; local = refl; value = refl }
  come g s h here (suc n) apart =
      let c = come g s h here n (λ j l. apart j (omega (arith, l))) in
      let now : Whole = record { world = after bare g.world t n; arrived = g.arrived } in
      let none = apart n (omega arith) in
      let made = turns.bare_turn file harts t turns.steps (c.state.local t) (c.state.value k) in
      let stays : made.value ≡ c.state.value k =
      turn_stays (c.state.local t) (c.state.value k) (c.state.local t).thread
      (λ x q. sym (object_is file harts ok now c.state c.is t x q) ∙ none) in
      record {
        state = next (turns.bare_turn file harts) c.state (single t k turns.steps);
        is = one_step now c.state c.is here none;
        local = but_here c.state.local t t made.local refl
            ∙ ap₂ (λ (l : machine.Local) (v : machine.Value). (turns.bare_turn file harts t turns.steps l v).local) c.local c.value;
        value = but_here c.state.value k k made.value refl ∙ (stays ∙ c.value);
      }
    where
      one_step : (now : Whole) (z : State machine.Local machine.Value) → IsStateOf file harts now z → now.arrived t ≡ true →
          (step file now.world t).object ≡ None →
          IsStateOf file harts (whole_after file now t turns.steps) (next (turns.bare_turn file harts) z (single t k turns.steps))
      one_step now z h here none =
          state_along file harts ok now z (single t k turns.steps ∷ []) h ((here, subst (IsAt k) (sym none) tt), tt)

  -- the thread is the world's before each of an entry's instructions
  pub thread_then : (g : Whole) (s : State machine.Local machine.Value) → IsStateOf file harts g s → g.arrived t ≡ true → (n : ℕ) →
      ((j : ℕ) → j < n → (step file (after bare g.world t j) t).object ≡ None) →
      (after_steps file harts t (s.local t) (s.value k) n).thread ≡ slice_get (after bare g.world t n).threads t
  thread_then g s h here n apart =
      let c = come g s h here n apart in
      ap (λ (l : machine.Local). l.thread) (sym c.local) ∙ c.is.threads.here t here

  -- a thread that is there has arrived
  arrived_is : (g : Whole) (s : State machine.Local machine.Value) (x : Thread) → IsStateOf file harts g s → (s.local t).thread ≡ Some x → g.arrived t ≡ true
  arrived_is g s x h is = elim (cases_Bool (g.arrived t)) [
    | inl e ↦ e
    | inr e ↦ absurd (let z : Some x ≡ None = sym is ∙ h.threads.absent t e in cc)
  ]

  -- the thread needs a slot after so many instructions
  abbrev pub NeedsAt : machine.Local → machine.Value → ℕ → Type 0
  NeedsAt l v n = thread_needs file t (after_steps file harts t l v n).thread ≡ true

  module _ (g : Whole) (s : State machine.Local machine.Value) (h : IsStateOf file harts g s) (x : Thread) (is : (s.local t).thread ≡ Some x) (n : ℕ)
      (apart : (j : ℕ) → j + 1 < n → (step file (after bare g.world t j) t).object ≡ None) where
    same_need : (j : ℕ) → j < n →
        thread_needs file t (after_steps file harts t (s.local t) (s.value k) j).thread ≡ thread_needs file t (slice_get (after bare g.world t j).threads t)
    same_need j l =
        ap (thread_needs file t) (thread_then g s h (arrived_is g s x h is) j (λ i m. apart i (omega (arith, l, m))))

    pub some_needs : (j : ℕ) → j < n → NeedsAt (s.local t) (s.value k) j →
        list_any (λ (i : ℕ). thread_needs file t (slice_get (after bare g.world t i).threads t)) (up_from 0 n) ≡ true
    some_needs j l q =
        let z : 0 + j ≡ j = omega arith in
        let p = λ (i : ℕ). thread_needs file t (slice_get (after bare g.world t i).threads t) in
        number_any p 0 n j l (subst (λ (i : ℕ). p i ≡ true) (sym z) (sym (same_need j l) ∙ q))

    pub needs_some : list_any (λ (i : ℕ). thread_needs file t (slice_get (after bare g.world t i).threads t)) (up_from 0 n) ≡ true →
        (j : ℕ) × (j < n) × NeedsAt (s.local t) (s.value k) j
    needs_some q =
        let p = λ (i : ℕ). thread_needs file t (slice_get (after bare g.world t i).threads t) in
        let r = any_number p 0 n q in
        let z : 0 + r.0 ≡ r.0 = omega arith in
        (r.0, r.1, same_need r.0 r.1 ∙ subst (λ (i : ℕ). p i ≡ true) z r.2)

-- Instructions of a turn that touch registers alone.
use Rattle.std.proofs.Common.{◌≡◌, ℕ, zero, suc, ◌+◌, ◌*◌, ◌<◌, ◌≤◌, ◌^◌, ◌⊎◌, inl, inr, Bool, true, false, None, List, [], ◌++◌, length, refl, ap, sym, subst, ◌∙◌, arith, append-nil, Option}
use Rattle.std.specs.Prelude.{fold, is_some}
use Rattle.run_record.specs.declared.event.Event.{Event}
use Rattle.bare_machine.specs.World.{World, HasMemory, lives}
use Rattle.bare_machine.specs.Memory.{GuestMemory}
use Rattle.bare_machine.specs.Step.{Step, step}
use Rattle.bare_machine.specs.Locals.{IsLocalStep, AreLocalSteps, NoStep, OneMore}
use Rattle.machine_laws.specs.Threads.{threads_in, threads_after}
use Rattle.thread_turns.specs.declared.part.Part.{Part}
use Rattle.thread_turns.specs.declared.watched.WatchedMachine.{WatchedMachine}
use Rattle.thread_turns.specs.Going.{Setting, first, so_far, Hearing, IsGoingOn}
use Rattle.bare_machine.specs.Plain.{IsPlainStep}
use Rattle.thread_turns.specs.Turned.{Heard, CanGo, IsTurnOf, BeginsPlain, RunsPlain}
use Rattle.thread_turns.proofs.InstructionLaws.{next_labelled, next_quiet}
use Rattle.thread_turns.proofs.ReadyLaws.{goes}

abbrev pub longer : Part → ℕ → Part
longer p n = record p { steps = n }

abbrev pub with_machine : WatchedMachine → World → WatchedMachine
with_machine v w = record v { machine = w }

module _ (s : Setting) (p : Part) (v : WatchedMachine) (w : World) (uses : Bool) (on : IsGoingOn s 0 p v) (unused : p.used ≡ false) (room : length (first s) + 8 * (p.steps + 1) < 2 ^ 32) (plain : IsPlainStep s.file s.tid v.machine w uses) where
  abbrev st : Step
  st = step s.file v.machine s.tid

  abbrev q : Part
  q = record p { steps = p.steps + 1; used = uses }

  can : CanGo s p v
  can = elim (on.phase unused) [ inl has ↦ inl has | inr quiet ↦ inr (quiet, plain.needless) ]

  going : IsGoingOn s 1 p v
  going = goes s p v on unused

  world : st.world ≡ w
  world = ap (λ (x : Step). x.world) plain.step_is

  nothing : st.events ≡ []
  nothing = ap (λ (x : Step). x.events) plain.step_is

  events_are : q.events ≡ p.events ++ st.events
  events_are = sym (append-nil p.events) ∙ ap (λ (es : List Event). p.events ++ es) (sym nothing)

  used_is : q.used ≡ is_some st.object
  used_is = plain.uses_is ∙ ap (λ (x : Step). is_some x.object) (sym plain.step_is)

  memory : HasMemory s.file st.world
  memory = ap (λ (x : World). length x.memory.words) world ∙ (plain.memory_stays ∙ on.running.memory)

  heard : Heard s (threads_in v.machine) st.events p p v.detector
  heard = record {
    hearing = subst (λ (es : List Event). Hearing s (fold (threads_after s.tid) (threads_in v.machine) es) p v.detector) (sym nothing) on.hearing;
    slot = λ last has. has;
    added = events_are;
    attached = refl;
    steps = refl;
    used = refl;
    grown = let z = ap length nothing in omega arith;
  }

  moved : IsGoingOn s 0 q (record { machine = st.world; detector = v.detector })
  moved = elim can [
    | inl has ↦ next_labelled s p v going unused room q q.used events_are refl used_is memory p v.detector has heard refl
    | inr quiet ↦ next_quiet s p v going unused room q q.used events_are refl used_is memory quiet.0 quiet.1 refl
  ]

  pub one_plain : IsGoingOn s 0 q (with_machine v w)
  one_plain = subst (λ (x : World). IsGoingOn s 0 q (record { machine = x; detector = v.detector })) world moved

plain_of : (file : List ℕ) (tid : ℕ) (old new : World) → IsLocalStep file tid old new → IsPlainStep file tid old new false
plain_of file tid old new local = record { object = None; uses_is = refl; step_is = local.step_is; needless = local.needless; memory_stays = ap (λ (m : GuestMemory). length m.words) local.memory_stays }

one_local : (s : Setting) (p : Part) (v : WatchedMachine) (w : World) → IsGoingOn s 0 p v → p.used ≡ false → length (first s) + 8 * (p.steps + 1) < 2 ^ 32 → IsLocalStep s.file s.tid v.machine w → IsGoingOn s 0 (longer p (p.steps + 1)) (with_machine v w)
one_local s p v w on unused room local =
    subst (λ (b : Bool). IsGoingOn s 0 (record p { steps = p.steps + 1; used = b }) (with_machine v w)) (sym unused) (one_plain s p v w false on unused room (plain_of s.file s.tid v.machine w local))

pub all_locals : (s : Setting) (p : Part) (v : WatchedMachine) (n : ℕ) (w : World) → AreLocalSteps s.file s.tid v.machine n w → p.used ≡ false → length (first s) + 8 * (p.steps + n) < 2 ^ 32 → IsGoingOn s 0 p v → IsGoingOn s 0 (longer p (p.steps + n)) (with_machine v w)
all_locals s p v n w NoStep unused room on = subst (λ (k : ℕ). IsGoingOn s 0 (longer p k) v) (let z : p.steps ≡ p.steps + 0 = omega arith in z) on
all_locals s p v n w (OneMore k old new so_far local) unused room on =
    let before = all_locals s p v k old so_far unused (omega arith) on in
    let one = one_local s (longer p (p.steps + k)) (with_machine v old) new before unused (omega arith) local in
    subst (λ (m : ℕ). IsGoingOn s 0 (longer p m) (with_machine v new)) (let z : (p.steps + k) + 1 ≡ p.steps + suc k = omega arith in z) one

-- what the call asks for and ensures
pub alive_there : (file : List ℕ) (tid : ℕ) (p : Part) (v : WatchedMachine) → p.used ≡ false → IsTurnOf file tid p v → lives v.machine tid ≡ Rattle.std.proofs.Common.true
alive_there file tid p v unused turn = ap (lives v.machine) (sym turn.tid_is) ∙ turn.going_on.alive unused

pub runs_locals : (file : List ℕ) (tid most n : ℕ) (p : Part) (v : WatchedMachine) (w : World) → p.used ≡ false → p.steps ≤ most → n + p.steps ≤ most → AreLocalSteps file tid v.machine n w → RunsPlain file tid most p (longer p (p.steps + n)) v (with_machine v w)
runs_locals file tid most n p v w unused few more steps s f t on room = record {
  going_on = all_locals s p v n w (subst (λ (x : List ℕ). AreLocalSteps x s.tid v.machine n w) (sym f) (subst (λ (u : ℕ). AreLocalSteps file u v.machine n w) (sym t) steps)) unused (omega arith) on;
  no_less = omega arith;
  no_more = omega arith;
  some = λ used. absurd (let z = sym unused ∙ used in cc);
}

-- ---- one that may load or store

-- what was made of the part
pub nothing_more : (file : List ℕ) (tid : ℕ) (p : Part) (v : WatchedMachine) (w : World) → p.used ≡ false → w ≡ v.machine → RunsPlain file tid (p.steps + 1) p p v (with_machine v w)
nothing_more file tid p v w unused same s f t on room = record {
  going_on = subst (λ (x : World). IsGoingOn s 0 p (with_machine v x)) (sym same) on;
  no_less = omega arith;
  no_more = omega arith;
  some = λ used. absurd (let z = sym unused ∙ used in cc);
}

pub one_more : (file : List ℕ) (tid : ℕ) (p : Part) (v : WatchedMachine) (w : World) (uses : Bool) → p.used ≡ false → IsPlainStep file tid v.machine w uses → RunsPlain file tid (p.steps + 1) p (record p { steps = p.steps + 1; used = uses }) v (with_machine v w)
one_more file tid p v w uses unused plain s f t on room = record {
  going_on = one_plain s p v w uses on unused room (subst (λ (x : List ℕ). IsPlainStep x s.tid v.machine w uses) (sym f) (subst (λ (u : ℕ). IsPlainStep file u v.machine w uses) (sym t) plain));
  no_less = omega arith;
  no_more = omega arith;
  some = λ used. omega arith;
}

-- a turn that begins so goes on so
pub turn_begins : (file : List ℕ) (tid most : ℕ) (p : Part) (v : WatchedMachine) → BeginsPlain file tid most p v → p.steps < most → IsTurnOf file tid p v
turn_begins file tid most p v begins few = record { setting = begins.setting; file_is = begins.file_is; tid_is = begins.tid_is; going_on = begins.going_on; room = let r = begins.room in omega arith }

pub turn_after : (file : List ℕ) (tid most : ℕ) (p q : Part) (v x : WatchedMachine) → BeginsPlain file tid most p v → RunsPlain file tid most p q v x → q.steps < most → IsTurnOf file tid q x
turn_after file tid most p q v x begins runs few =
    let now = runs begins.setting begins.file_is begins.tid_is begins.going_on begins.room in
    record { setting = begins.setting; file_is = begins.file_is; tid_is = begins.tid_is; going_on = now.going_on; room = let r = begins.room in omega arith }

pub runs_both : (file : List ℕ) (tid most : ℕ) (p q r : Part) (v x y : WatchedMachine) → RunsPlain file tid most p q v x → q.steps < most → RunsPlain file tid (q.steps + 1) q r x y → RunsPlain file tid most p r v y
runs_both file tid most p q r v x y one few two s f t on room =
    let a = one s f t on room in
    let b = two s f t a.going_on (omega arith) in
    record {
      going_on = b.going_on;
      no_less = let z = a.no_less in let u = b.no_less in omega arith;
      no_more = let u = b.no_more in omega arith;
      some = λ used. let z = a.no_less in let u = b.some used in omega arith;
    }

-- what the call of the machine asks for
pub memory_there : (file : List ℕ) (tid : ℕ) (p : Part) (v : WatchedMachine) → IsTurnOf file tid p v → HasMemory file v.machine
memory_there file tid p v turn = subst (λ (f : List ℕ). HasMemory f v.machine) turn.file_is turn.going_on.running.memory

pub one_of_registers : (file : List ℕ) (tid : ℕ) (p : Part) (v : WatchedMachine) (w : World) → p.used ≡ false → IsPlainStep file tid v.machine w false → RunsPlain file tid (p.steps + 1) p (longer p (p.steps + 1)) v (with_machine v w)
one_of_registers file tid p v w unused plain = subst (λ (b : Bool). RunsPlain file tid (p.steps + 1) p (record p { steps = p.steps + 1; used = b }) v (with_machine v w)) (sym unused) (one_more file tid p v w false unused plain)

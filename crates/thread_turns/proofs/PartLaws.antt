-- All instructions of a turn.
use Rattle.std.proofs.Common.{◌≡◌, ℕ, ◌+◌, ◌-◌, ◌*◌, ◌<◌, ◌≤◌, ◌^◌, ◌⊎◌, inl, inr, Bool, true, false, List, length, refl, sym, subst, ◌∙◌, arith, not}
use Rattle.std.specs.Prelude.{if◌then◌else◌}
use Rattle.thread_turns.specs.declared.part.Part.{Part}
use Rattle.thread_turns.specs.declared.watched.WatchedMachine.{WatchedMachine}
use Rattle.thread_turns.specs.Going.{Setting, first, IsGoingOn}
use Rattle.thread_turns.specs.Turned.{IsTurnOf, IsStopped, Advances, AdvancesAll, BeginsPlain, Goes, RunsPlain, BeginsPart, RunsPart}

-- what has come of the turn so far
pub record Partly (s : Setting) (stopped : Bool) (q : Part) (w : WatchedMachine) (most : ℕ) : Type 0 where
  pub going_on : IsGoingOn s 0 q w
  pub no_more : q.steps ≤ most
  pub stopped_is : stopped ≡ true → (q.used ≡ false) × IsStopped s q w

abbrev pub PartlyAll : List ℕ → ℕ → ℕ → Bool → Part → Part → WatchedMachine → WatchedMachine → Type 0
PartlyAll file tid most stopped p q old new =
    (s : Setting) → s.file ≡ file → s.tid ≡ tid → p.steps ≡ 0 → p.used ≡ false → IsGoingOn s 0 p old → length (first s) + 8 * most < 2 ^ 32 → Partly s stopped q new most

abbrev pub left : ℕ → ℕ → Bool → ℕ
left most steps stopped = (most - steps) + (if stopped then 0 else 1)

pub partly_start : (file : List ℕ) (tid most : ℕ) (p : Part) (w : WatchedMachine) → PartlyAll file tid most false p p w w
partly_start file tid most p w s f t none unused going room = record { going_on = going; no_more = omega arith; stopped_is = λ z. absurd (cc) }

module _ (file : List ℕ) (tid most : ℕ) (p q : Part) (old w : WatchedMachine) (begins : BeginsPart file tid most p old) (so_far : PartlyAll file tid most false p q old w) where
  here : Partly begins.setting false q w most
  here = so_far begins.setting begins.file_is begins.tid_is begins.none_yet begins.unused begins.going_on begins.room

  pub part_turn : q.steps < most → IsTurnOf file tid q w
  part_turn more = record { setting = begins.setting; file_is = begins.file_is; tid_is = begins.tid_is; going_on = here.going_on; room = let r = begins.room in omega arith }

  pub part_begins : BeginsPlain file tid most q w
  part_begins = record { setting = begins.setting; file_is = begins.file_is; tid_is = begins.tid_is; going_on = here.going_on; room = begins.room }

  -- instructions without events come first
  goes_by : (r : Part) (v : WatchedMachine) → RunsPlain file tid most q r w v → Goes begins.setting most q r v
  goes_by r v runs = runs begins.setting begins.file_is begins.tid_is here.going_on begins.room

  pub part_plain : (r : Part) (v : WatchedMachine) → RunsPlain file tid most q r w v → PartlyAll file tid most false p r old v
  part_plain r v runs s f t none unused going room =
      let now = runs s f t (so_far s f t none unused going room).going_on room in
      record { going_on = now.going_on; no_more = now.no_more; stopped_is = λ z. absurd (cc) }

  advance_by : (b : Bool) (u : Part) (x : WatchedMachine) → q.steps < most → AdvancesAll file tid b q u w x → Advances begins.setting b q u x
  advance_by b u x more advances = advances begins.setting begins.file_is begins.tid_is here.going_on (let r = begins.room in omega arith)

  pub part_more : (b : Bool) (u : Part) (x : WatchedMachine) → b ≡ true → q.steps < most → AdvancesAll file tid b q u w x → PartlyAll file tid most false p u old x
  part_more true u x is more advances s f t none unused going room =
      let made = advances s f t (so_far s f t none unused going room).going_on (omega arith) in
      record { going_on = made.0; no_more = let z = made.1 in omega arith; stopped_is = λ z. absurd (cc) }
  part_more false u x is more advances s f t none unused going room = absurd cc

  pub part_steps : (b : Bool) (u : Part) (x : WatchedMachine) → b ≡ true → q.steps < most → AdvancesAll file tid b q u w x → u.steps ≡ q.steps + 1
  part_steps true u x is more advances = (advance_by true u x more advances).1
  part_steps false u x is more advances = absurd cc

  pub part_stop : (b : Bool) (u : Part) (x : WatchedMachine) → b ≡ false → q.steps < most → q.used ≡ false → AdvancesAll file tid b q u w x → PartlyAll file tid most true p u old x
  part_stop true u x is more not_used advances s f t none unused going room = absurd cc
  part_stop false u x is more not_used advances s f t none unused going room =
      let stays = advances s f t (so_far s f t none unused going room).going_on (omega arith) in
      record { going_on = stays.going_on; no_more = let z = stays.steps in omega arith; stopped_is = λ z. (stays.used ∙ not_used, stays.stopped) }

  pub part_stop_steps : (b : Bool) (u : Part) (x : WatchedMachine) → b ≡ false → q.steps < most → AdvancesAll file tid b q u w x → u.steps ≡ q.steps
  part_stop_steps true u x is more advances = absurd cc
  part_stop_steps false u x is more advances = (advance_by false u x more advances).steps

-- the loop ends
pub part_ends : (file : List ℕ) (tid most : ℕ) (stopped : Bool) (p q : Part) (old new : WatchedMachine) → 1 ≤ most → PartlyAll file tid most stopped p q old new → (stopped ≡ true) ⊎ ((q.used ≡ true) ⊎ (most ≤ q.steps)) → RunsPart file tid most stopped p q old new
part_ends file tid most stopped p q old new positive so_far ended s f t none unused going room =
    let now = so_far s f t none unused going room in
    record {
      going_on = now.going_on;
      no_more = now.no_more;
      some = λ not_stopped. elim ended [
        | inl is ↦ absurd (let z = sym is ∙ not_stopped in cc)
        | inr (inl used) ↦ (now.going_on.running.used used).0
        | inr (inr all) ↦ omega arith
      ];
      ended = λ not_stopped. elim ended [
        | inl is ↦ absurd (let z = sym is ∙ not_stopped in cc)
        | inr (inl used) ↦ inl used
        | inr (inr all) ↦ inr (let z = now.no_more in omega arith)
      ];
      stopped = now.stopped_is;
    }

-- the code is the file's
pub turn_of_code : (file code : List ℕ) (tid : ℕ) (p : Part) (w : WatchedMachine) → code ≡ file → IsTurnOf file tid p w → IsTurnOf code tid p w
turn_of_code file code tid p w same turn = subst (λ (f : List ℕ). IsTurnOf f tid p w) (sym same) turn

pub begins_of_code : (file code : List ℕ) (tid most : ℕ) (p : Part) (w : WatchedMachine) → code ≡ file → BeginsPlain file tid most p w → BeginsPlain code tid most p w
begins_of_code file code tid most p w same begins = subst (λ (f : List ℕ). BeginsPlain f tid most p w) (sym same) begins

plain_of_code : (file code : List ℕ) (tid most : ℕ) (q r : Part) (w v : WatchedMachine) → code ≡ file → RunsPlain code tid most q r w v → RunsPlain file tid most q r w v
plain_of_code file code tid most q r w v same runs = subst (λ (f : List ℕ). RunsPlain f tid most q r w v) same runs

pub after_plain : (file code : List ℕ) (tid most : ℕ) (b : Bool) (p q r : Part) (old w v : WatchedMachine) → BeginsPart file tid most p old → b ≡ false → PartlyAll file tid most b p q old w → code ≡ file → RunsPlain code tid most q r w v → PartlyAll file tid most false p r old v
after_plain file code tid most b p q r old w v begins is all same runs =
    part_plain file tid most p q old w begins (subst (λ (x : Bool). PartlyAll file tid most x p q old w) is all) r v (plain_of_code file code tid most q r w v same runs)

pub few_plain : (file code : List ℕ) (tid most : ℕ) (b : Bool) (p q r : Part) (old w v : WatchedMachine) → BeginsPart file tid most p old → b ≡ false → PartlyAll file tid most b p q old w → code ≡ file → RunsPlain code tid most q r w v → (q.steps ≤ r.steps) × (r.steps ≤ most) × (r.used ≡ true → q.steps < r.steps)
few_plain file code tid most b p q r old w v begins is all same runs =
    let goes = goes_by file tid most p q old w begins (subst (λ (x : Bool). PartlyAll file tid most x p q old w) is all) r v (plain_of_code file code tid most q r w v same runs) in
    (goes.no_less, goes.no_more, goes.some)

not_false : (b : Bool) → not b ≡ true → b ≡ false
not_false true z = absurd (cc)
not_false false z = refl

-- the same for a flag that is known
pub at_false : (file : List ℕ) (tid most : ℕ) (b : Bool) (p q : Part) (old w : WatchedMachine) → b ≡ false → PartlyAll file tid most b p q old w → PartlyAll file tid most false p q old w
at_false file tid most b p q old w is all = subst (λ (x : Bool). PartlyAll file tid most x p q old w) is all

pub from_false : (file : List ℕ) (tid most : ℕ) (b : Bool) (p q : Part) (old w : WatchedMachine) → b ≡ false → PartlyAll file tid most false p q old w → PartlyAll file tid most b p q old w
from_false file tid most b p q old w is all = subst (λ (x : Bool). PartlyAll file tid most x p q old w) (sym is) all

pub smaller_step : (most steps now later : ℕ) (b : Bool) → b ≡ false → steps ≤ now → later ≡ now + 1 → now < most → left most later b < left most steps b
smaller_step most steps now later b is grows next less = rw is (omega arith)

pub smaller_stop : (most steps now later : ℕ) (b : Bool) → b ≡ false → steps ≤ now → later ≡ now → left most later true < left most steps b
smaller_stop most steps now later b is grows same = rw is (omega arith)

pub smaller_plain : (most steps later : ℕ) (b : Bool) → steps < most → steps < later → left most later b < left most steps b
smaller_plain most steps later b less more = omega arith

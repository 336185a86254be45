-- Threads behind a round.
use Rattle.std.proofs.Common.{◌≡◌, ◌≢◌, ◌<◌, ◌⊎◌, ℕ, Bool, List, [], ◌∷◌, length, None, Some, inl, inr, refl, sym, ap, subst, ◌∙◌, arith}
use Rattle.std.specs.Prelude.{Option, map}
use Rattle.std.specs.List.{AllZip, All}
use Rattle.std.proofs.lemmas.Bool.{cases_eq}
use Rattle.std.proofs.lemmas.List.Elements.{All-nil, All-cons}
use Rattle.std.proofs.lemmas.Option.{get_or_from_slice_get}
use Rattle.run_record.specs.declared.entry.Entry.{Entry}
use Rattle.run_record.specs.declared.limits.Limits.{Limits}
use Rattle.trace_parts.specs.Held.{with_spare}
use Rattle.turn_orders.specs.Lists.{Each, In}
use Rattle.turn_orders.specs.LineUp.{Stamped}
use Rattle.shared_table.specs.declared.object.Object.{Object}
use Rattle.shared_table.specs.declared.view.View.{View}
use Rattle.shared_table.specs.Layouts.{SharedTable, IsTableOf}
use Rattle.shared_table.proofs.Pasts.{if_here, if_else}
use Rattle.placed_detector.specs.Standing.{Hand}
use Rattle.hart_parts.specs.Parts.{Part, left_in}
use Rattle.part_races.specs.Sorting.{Keyed}
use Rattle.hart_turns.specs.declared.slots.ThreadState.{ThreadState}
use Rattle.part_workers.specs.declared.part.Post.{Post}
use Rattle.part_workers.specs.declared.worker.HartWorker.{HartWorker}
use Rattle.part_workers.specs.Works.{leaves_with, IsKept, CanWork}
use Rattle.hart_workers.specs.Tells.{HaveTraces}
use Rattle.made_rounds.specs.Made.{MadeRound, Stand, first_stand, after_parts, base_after, stand_after}
use Rattle.made_rounds.specs.Known.{at_round_end}
use Rattle.hart_workers.specs.declared.crew.Due.{Due}
use Rattle.hart_workers.specs.Crews.{state_at, StandsFor, IsIdle, IsHired, Hires, TakesBack}
use Rattle.hart_workers.specs.Parts.{ArePartsOf}
use Rattle.hart_workers.proofs.Kept.{not_both}
use Rattle.hart_workers.proofs.Taking.{tids, IsBack}
use Rattle.hart_workers.proofs.Resting.{not_back, still_first, still_kept, now_kept, era_trace}

in_or_not : (t : ℕ) (ts : List ℕ) → In t ts ⊎ (In t ts → ⊥)
in_or_not t [] = inr (λ i. i)
in_or_not t (u ∷ ts) = elim (cases_eq t u) [
  | inl e ↦ inl (inl e)
  | inr ne ↦ elim (in_or_not t ts) [
    | inl i ↦ inl (inr i)
    | inr out ↦ inr (λ i. elim i [
      | inl e ↦ ne e
      | inr j ↦ out j
    ])
  ]
]

-- ---- what a thread has after the parts

abbrev threads_in : List Part → List ℕ
threads_in ps = map (λ (p : Part). p.thread) ps

-- a thread without a part has what it had
unchanged : (ps : List Part) (locals : ℕ → Stamped Hand) (t : ℕ) → (In t (threads_in ps) → ⊥) → after_parts ps locals t ≡ locals t
unchanged [] locals t out = refl
unchanged (p ∷ ps) locals t out =
    if_else p.thread t (left_in p) (after_parts ps locals t) (λ e. out (inl (sym e)))
    ∙ unchanged ps locals t (λ i. out (inr i))

module _ {G : Type 0} (limits : Limits) (era : ℕ) (new : List (Option ThreadState)) (locals : ℕ → Stamped Hand) where
  abbrev Left : Part → HartWorker G → Type 0
  Left p x = left_in p ≡ leaves_with x.state x.part.last

  abbrev Keeps : HartWorker G → Type 0
  Keeps x = IsKept limits x.state × (x.state.watcher.era ≡ era)

  -- a thread whose worker is back has what the worker left
  pub record IsBackWith (t : ℕ) (x : HartWorker G) (h : Stamped Hand) : Type 0 where
    pub state : state_at new t ≡ Some x.state
    pub left : h ≡ leaves_with x.state x.part.last
    pub kept : Keeps x

  back_with : (ps : List Part) (xs : List (HartWorker G)) (t : ℕ) → threads_in ps ≡ tids xs → AllZip Left ps xs → Each (IsBack new) xs → Each Keeps xs →
      In t (tids xs) → (x : HartWorker G) × IsBackWith t x (after_parts ps locals t)
  back_with [] [] t threads left back kept i = absurd i
  back_with [] (x ∷ xs) t threads left back kept i = absurd left
  back_with (p ∷ ps) [] t threads left back kept i = absurd left
  back_with (p ∷ ps) (x ∷ xs) t threads left back kept i =
      let head : p.thread ≡ x.post.tid = cc in
      let tail : threads_in ps ≡ tids xs = cc in
      elim (cases_eq p.thread t) [
        | inl e ↦ (
          x,
          record {
            state = ap (state_at new) (sym e ∙ head) ∙ back.0;
            left = if_here p.thread t (left_in p) (after_parts ps locals t) e ∙ left.0;
            kept = kept.0;
          },
        )
        | inr ne ↦
            let rest : In t (tids xs) = elim i [
              | inl q ↦ absurd (ne (head ∙ sym q))
              | inr j ↦ j
            ] in
            let r = back_with ps xs t tail left.1 back.1 kept.1 rest in (
              r.0,
              record {
                state = r.1.state;
                left = if_else p.thread t (left_in p) (after_parts ps locals t) ne ∙ r.1.left;
                kept = r.1.kept;
              },
            )
      ]

-- ---- workers that were hired

module _ {G : Type 0} (file : List ℕ) (limits : Limits) (due : Due) (old : List (Option ThreadState)) where
  hired_tids : (live : List ℕ) (ws : List (HartWorker G)) → AllZip (IsHired file limits due old) live ws → tids ws ≡ live
  hired_tids [] [] h = refl
  hired_tids [] (w ∷ ws) h = absurd h
  hired_tids (t ∷ live) [] h = absurd h
  hired_tids (t ∷ live) (w ∷ ws) h =
      ap (λ (u : ℕ). u ∷ tids ws) (ap (λ (p : Post). p.tid) h.0.post) ∙ ap (λ (us : List ℕ). t ∷ us) (hired_tids live ws h.1)

  -- each of them may work at a table of the run
  pub can_work : (s : Stand) (table : SharedTable) → IsTableOf file limits table → IsIdle limits s old → (live : List ℕ) (ws : List (HartWorker G)) →
      AllZip (IsHired file limits due old) live ws → All (CanWork table) ws
  can_work s table of idle [] [] h = All-nil (CanWork table)
  can_work s table of idle [] (w ∷ ws) h = absurd h
  can_work s table of idle (t ∷ live) [] h = absurd h
  can_work s table of idle (t ∷ live) (w ∷ ws) h = All-cons (CanWork table) w ws one (can_work s table of idle live ws h.1)
    where
      stood : StandsFor limits s t (Some w.state)
      stood = subst (StandsFor limits s t) h.0.state (idle.each t)

      one : CanWork table w
      one = record {
        table = subst (λ (ls : Limits). IsTableOf w.image.now ls table) (sym h.0.limits_are)
            (subst (λ (f : List ℕ). IsTableOf f limits table) (sym h.0.image) of);
        code = h.0.code ∙ sym h.0.image;
        untold = h.0.untold;
        kept = subst (λ (ls : Limits). IsKept ls w.state) (sym h.0.limits_are) stood.0;
      }

-- ---- behind a round

-- what stands for a thread that made no part, stands for it behind the round
carried : (limits : Limits) (s : Stand) (x : MadeRound) (t : ℕ) (o : Option ThreadState) → after_parts x.parts s.locals t ≡ s.locals t →
    StandsFor limits s t o → StandsFor limits (stand_after s x) t o
carried limits s x t None same h =
    still_first limits t s.era x.ends s.base (base_after s x) (after_parts x.parts s.locals t) (same ∙ h)
carried limits s x t (Some y) same h =
    let low = h.1 in
    let on = not_back s.era x.ends in (
      h.0,
      omega (arith, low, on),
      still_kept y s.era x.ends s.base (base_after s x) (after_parts x.parts s.locals t) low (same ∙ h.2),
    )

module _ {G : Type 0} (file : List ℕ) (limits : Limits) (s : Stand) (share : ℕ) (v w : View) (before after : List (HartWorker G)) (x : MadeRound)
    (made : ArePartsOf file limits s share v w before after x.parts) (due : Due) (old between new : List (Option ThreadState)) (live : List ℕ)
    (hires : Hires file limits due old live between before) (logs logs' : List (List Entry)) (pending pending' : List Keyed) (starved : Bool)
    (taken : TakesBack between new after logs logs' pending pending' starved) (idle : IsIdle limits s old) where
  abbrev local : ℕ → Stamped Hand
  local t = after_parts x.parts s.locals t

  after_tids : tids after ≡ live
  after_tids = made.same ∙ hired_tids file limits due old live before hires.workers

  back : (t : ℕ) → In t (tids after) → (y : HartWorker G) × IsBackWith limits s.era new s.locals t y (local t)
  back t i = back_with limits s.era new s.locals x.parts after t (made.threads ∙ sym made.same) made.left taken.back made.kept i

  same_local : (t : ℕ) → (In t (tids after) → ⊥) → local t ≡ s.locals t
  same_local t out = unchanged x.parts s.locals t (λ i. out (subst (λ (ts : List ℕ). In t ts) (made.threads ∙ sym made.same) i))

  same_state : (t : ℕ) → (In t (tids after) → ⊥) → state_at new t ≡ state_at old t
  same_state t out = taken.others t out ∙ hires.others t (λ i. out (subst (λ (ts : List ℕ). In t ts) (sym after_tids) i))

  stands : (t : ℕ) → StandsFor limits (stand_after s x) t (state_at new t)
  stands t = elim (in_or_not t (tids after)) [
    | inl i ↦
        let b = back t i in
        let same = b.1.kept.1 in
        let on = not_back s.era x.ends in
        subst (StandsFor limits (stand_after s x) t) (sym b.1.state) (
          b.1.kept.0,
          omega (arith, same, on),
          now_kept b.0.state s.era x.ends b.0.part.last (base_after s x) (local t) same b.1.left,
        )
    | inr out ↦ subst (StandsFor limits (stand_after s x) t) (sym (same_state t out))
        (carried limits s x t (state_at old t) (same_local t out) (idle.each t))
  ]

  there : (t : ℕ) → t < length new → state_at new t ≢ None
  there t l none = elim (in_or_not t (tids after)) [
    | inl i ↦ let b = back t i in not_both (state_at new t) b.0.state b.1.state none
    | inr out ↦
        let long : length new ≡ length old = taken.count ∙ hires.count in
        idle.present t (omega (arith, l, long)) (sym (same_state t out) ∙ none)
  ]

  -- the states stand for what the next round begins with
  pub idle_behind : IsIdle limits (stand_after s x) new
  idle_behind = record { each = stands; present = there }

  kept_trace : (t : ℕ) (o : Option ThreadState) (y : ThreadState) → o ≡ Some y → StandsFor limits s t o →
      with_spare 0 y.watcher.trace ≡ (s.locals t).state.watched.trace
  kept_trace t None y e h = absurd (cc)
  kept_trace t (Some z) y e h =
      let same : y ≡ z = cc in
      ap (λ (q : ThreadState). with_spare 0 q.watcher.trace) same
      ∙ (ap (with_spare 0) (sym (era_trace z.watcher s.era)) ∙ sym (ap (λ (l : Stamped Hand). l.state.watched.trace) h.2))

  same_some : (o : Option ThreadState) (y z : ThreadState) → o ≡ Some y → o ≡ Some z → y ≡ z
  same_some o y z e q = cc

  -- and they have the traces of the round's end
  pub traces_behind : HaveTraces (at_round_end s x) new
  traces_behind t y e =
      let is : state_at new t ≡ Some y = get_or_from_slice_get new t (Some y) None e in
      elim (in_or_not t (tids after)) [
        | inl i ↦
            let b = back t i in
            let same : y ≡ b.0.state = same_some (state_at new t) y b.0.state is b.1.state in
            ap (λ (q : ThreadState). with_spare 0 q.watcher.trace) same ∙ sym (ap (λ (l : Stamped Hand). l.state.watched.trace) b.1.left)
        | inr out ↦
            kept_trace t (state_at old t) y (sym (same_state t out) ∙ is) (idle.each t)
            ∙ sym (ap (λ (l : Stamped Hand). l.state.watched.trace) (same_local t out))
      ]

-- ---- before the first round

-- where no thread was made
pub idle_first : (limits : Limits) (first : Object) → IsIdle limits (first_stand limits first) []
idle_first limits first = record { each = λ t. refl; present = λ t l. absurd (let z : t < 0 = l in omega (arith, z)) }

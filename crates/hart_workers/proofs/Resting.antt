-- Threads that wait for the next round.
use Rattle.std.proofs.Common.{◌≡◌, ◌≢◌, ◌<◌, ◌≤◌, ◌+◌, ℕ, Bool, true, false, List, [], ◌∷◌, ◌++◌, length, replicate, None, Some, inl, inr, refl, sym, ap, subst, ◌∙◌, arith, length-append}
use Rattle.std.specs.Prelude.{Option, if◌then◌else◌}
use Rattle.std.proofs.lemmas.Bool.{cases_eq, cases_lt}
use Rattle.std.proofs.lemmas.List.{get_or_append_left, length-replicate}
use Rattle.run_record.specs.declared.limits.Limits.{Limits}
use Rattle.turn_orders.specs.LineUp.{Stamped, with_stamp}
use Rattle.race_core.specs.Watched.{Watched, new_watched, in_era}
use Rattle.shared_table.proofs.Pasts.{if_here, if_else}
use Rattle.placed_detector.specs.Standing.{Hand}
use Rattle.placed_detector.specs.First.{first_hand}
use Rattle.placed_detector.specs.Slots.{hand_in_era}
use Rattle.table_deeds.specs.Rounds.{next_hand}
use Rattle.hart_turns.specs.declared.slots.ThreadState.{ThreadState}
use Rattle.hart_turns.specs.Hearing.{at_rest}
use Rattle.hart_turns.specs.Slots.{local_in}
use Rattle.part_workers.specs.Works.{begins, leaves_with, IsKept}
use Rattle.made_rounds.specs.Made.{Stand}
use Rattle.hart_workers.specs.Crews.{state_at, StandsFor, IsIdle}
use Rattle.hart_workers.proofs.Kept.{state_past}

-- ---- eras

-- the watcher, gone on in that era
abbrev cleared : Watched → ℕ → ℕ → Watched
cleared w era n = record w { era = era; label = None; clock = replicate n 0 }

era_same : (w : Watched) (era : ℕ) → w.era ≡ era → in_era w era ≡ w
era_same w era e = if_here w.era era w (cleared w era (length w.clock)) e

era_other : (w : Watched) (era : ℕ) → w.era ≢ era → in_era w era ≡ cleared w era (length w.clock)
era_other w era ne = if_else w.era era w (cleared w era (length w.clock)) ne

pub era_trace : (w : Watched) (era : ℕ) → (in_era w era).trace ≡ w.trace
era_trace w era = elim (cases_eq w.era era) [
  | inl e ↦ ap (λ (z : Watched). z.trace) (era_same w era e)
  | inr ne ↦ ap (λ (z : Watched). z.trace) (era_other w era ne)
]

era_rest : (w : Watched) (era : ℕ) → in_era (at_rest w) era ≡ at_rest (in_era w era)
era_rest w era = elim (cases_eq w.era era) [
  | inl e ↦ era_same (at_rest w) era e ∙ sym (ap at_rest (era_same w era e))
  | inr ne ↦ era_other (at_rest w) era ne ∙ sym (ap at_rest (era_other w era ne))
]

era_twice : (w : Watched) (era : ℕ) → w.era ≤ era → in_era (in_era w era) (era + 1) ≡ in_era w (era + 1)
era_twice w era h = elim (cases_eq w.era era) [
  | inl e ↦ ap (λ (z : Watched). in_era z (era + 1)) (era_same w era e)
  | inr ne ↦
      let other : w.era ≢ era + 1 = λ q. absurd (omega (arith, q, h)) in
      let next : era ≢ era + 1 = λ q. absurd (omega (arith, q)) in
      ap (λ (z : Watched). in_era z (era + 1)) (era_other w era ne)
      ∙ (era_other (cleared w era (length w.clock)) (era + 1) next
      ∙ (ap (λ (n : ℕ). cleared w (era + 1) n) (length-replicate (length w.clock) 0)
      ∙ sym (era_other w (era + 1) other)))
]

-- the era after a round of that era
abbrev pub next_era : ℕ → Bool → ℕ
next_era era ends = if ends then era + 1 else era

pub not_back : (era : ℕ) (ends : Bool) → era ≤ next_era era ends
not_back era true = omega arith
not_back era false = omega arith

-- ---- what threads go on with

-- a thread that has done nothing
pub still_first : (limits : Limits) (t era : ℕ) (ends : Bool) (base last : ℕ) (h : Stamped Hand) →
    h ≡ with_stamp (hand_in_era era (first_hand limits t)) base →
    with_stamp (next_hand era ends h.state) last ≡ with_stamp (hand_in_era (next_era era ends) (first_hand limits t)) last
still_first limits t era true base last h e =
    let w = new_watched t limits in
    ap (λ (z : Stamped Hand). with_stamp (hand_in_era (era + 1) z.state) last) e
    ∙ ap (λ (z : Watched). with_stamp (record (first_hand limits t) { watched = z }) last) (era_twice w era (let z : 0 ≤ era = omega arith in z))
still_first limits t era false base last h e = ap (λ (z : Stamped Hand). with_stamp z.state last) e

abbrev resting : ThreadState → Watched → ℕ → Stamped Hand
resting x w last = with_stamp (record { bare = local_in x.hart; watched = w; given = None }) last

-- a thread that made no part
pub still_kept : (x : ThreadState) (era : ℕ) (ends : Bool) (base last : ℕ) (h : Stamped Hand) → x.watcher.era ≤ era → h ≡ begins era x base →
    with_stamp (next_hand era ends h.state) last ≡ begins (next_era era ends) x last
still_kept x era true base last h low e =
    ap (λ (z : Stamped Hand). with_stamp (hand_in_era (era + 1) z.state) last) e
    ∙ ap (λ (w : Watched). resting x w last) (era_rest (in_era x.watcher era) (era + 1) ∙ ap at_rest (era_twice x.watcher era low))
still_kept x era false base last h low e = ap (λ (z : Stamped Hand). with_stamp z.state last) e

-- a thread that made one
pub now_kept : (x : ThreadState) (era : ℕ) (ends : Bool) (base last : ℕ) (h : Stamped Hand) → x.watcher.era ≡ era → h ≡ leaves_with x base →
    with_stamp (next_hand era ends h.state) last ≡ begins (next_era era ends) x last
now_kept x era true base last h same e =
    ap (λ (z : Stamped Hand). with_stamp (hand_in_era (era + 1) z.state) last) e
    ∙ ap (λ (w : Watched). resting x w last) (era_rest x.watcher (era + 1))
now_kept x era false base last h same e =
    ap (λ (z : Stamped Hand). with_stamp z.state last) e
    ∙ ap (λ (w : Watched). resting x (at_rest w) last) (sym (era_same x.watcher era same))

-- ---- a thread more

abbrev new_state : Limits → ℕ → ThreadState
new_state limits t = record { hart = None; watcher = new_watched t limits }

new_kept : (limits : Limits) (t : ℕ) → IsKept limits (new_state limits t)
new_kept limits t = record { clock = length-replicate limits.slots 0; greatest = refl; began = λ h e. absurd (cc) }

new_begins : (limits : Limits) (t era last : ℕ) →
    with_stamp (hand_in_era era (first_hand limits t)) last ≡ begins era (new_state limits t) last
new_begins limits t era last =
    ap (λ (w : Watched). resting (new_state limits t) w last) (era_rest (new_watched t limits) era)

-- what stands for a thread of which nothing is kept, stands for one that is new
new_stands : (limits : Limits) (s : Stand) (t : ℕ) (o : Option ThreadState) → o ≡ None → StandsFor limits s t o → StandsFor limits s t (Some (new_state limits t))
new_stands limits s t None e h = (new_kept limits t, (let z : 0 ≤ s.era = omega arith in z), h ∙ new_begins limits t s.era s.base)
new_stands limits s t (Some x) e h = absurd (cc)

module _ (limits : Limits) (s : Stand) (old : List (Option ThreadState)) (idle : IsIdle limits s old) where
  abbrev grown : List (Option ThreadState)
  grown = old ++ Some (new_state limits (length old)) ∷ []

  grown_low : (t : ℕ) → t < length old → state_at grown t ≡ state_at old t
  grown_low t l = get_or_append_left old (Some (new_state limits (length old)) ∷ []) None t l

  grown_high : (t : ℕ) → length old < t → state_at grown t ≡ None
  grown_high t l = state_past grown t (let n : length grown ≡ length old + 1 = length-append old (Some (new_state limits (length old)) ∷ []) in omega (arith, n, l))

  grown_here : state_at grown (length old) ≡ Some (new_state limits (length old))
  grown_here = at_end old (Some (new_state limits (length old)))
    where
      at_end : (xs : List (Option ThreadState)) (o : Option ThreadState) → state_at (xs ++ o ∷ []) (length xs) ≡ o
      at_end [] o = refl
      at_end (x ∷ xs) o = at_end xs o

  grown_each : (t : ℕ) → StandsFor limits s t (state_at grown t)
  grown_each t = elim (cases_lt t (length old)) [
    | inl l ↦ subst (StandsFor limits s t) (sym (grown_low t l)) (idle.each t)
    | inr g ↦ elim (cases_eq t (length old)) [
      | inl e ↦ subst (λ (u : ℕ). StandsFor limits s u (state_at grown u)) (sym e) (subst (StandsFor limits s (length old)) (sym grown_here)
          (new_stands limits s (length old) (state_at old (length old)) (state_past old (length old) (let z : length old ≤ length old = omega arith in z)) (idle.each (length old))))
      | inr ne ↦
          let high : length old < t = omega (arith, g, ne) in
          subst (StandsFor limits s t) (state_past old t g ∙ sym (grown_high t high)) (idle.each t)
    ]
  ]

  some_not : (o : Option ThreadState) (x : ThreadState) → o ≡ Some x → o ≢ None
  some_not o x e n = cc

  grown_present : (t : ℕ) → t < length grown → state_at grown t ≢ None
  grown_present t l = elim (cases_lt t (length old)) [
    | inl low ↦ λ n. idle.present t low (sym (grown_low t low) ∙ n)
    | inr g ↦
        let n : length grown ≡ length old + 1 = length-append old (Some (new_state limits (length old)) ∷ []) in
        let e : t ≡ length old = omega (arith, n, l, g) in
        subst (λ (u : ℕ). state_at grown u ≢ None) (sym e) (some_not (state_at grown (length old)) (new_state limits (length old)) grown_here)
  ]

  grown_idle : IsIdle limits s grown
  grown_idle = record { each = grown_each; present = grown_present }

-- with a thread more, which has done nothing, threads stay as the stand has them
pub one_new : (limits : Limits) (s : Stand) (old new : List (Option ThreadState)) (t : ℕ) → t ≡ length old →
    new ≡ old ++ Some (record { hart = None; watcher = new_watched t limits }) ∷ [] → IsIdle limits s old → IsIdle limits s new
one_new limits s old new t e more idle =
    let same : new ≡ old ++ Some (new_state limits (length old)) ∷ [] = more ∙ ap (λ (u : ℕ). old ++ Some (new_state limits u) ∷ []) e in
    subst (IsIdle limits s) (sym same) (grown_idle limits s old idle)

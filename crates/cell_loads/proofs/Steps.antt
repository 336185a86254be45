-- The steps of a seat in a round, and the checks that they belong to.
use Rattle.std.proofs.Common.{◌≡◌, ◌<◌, ◌≤◌, ◌==◌, if◌then◌else◌, ℕ, List, [], ◌∷◌, ◌++◌, length, map, inl, inr, refl, sym, ap, subst, ◌∙◌, arith}
use Rattle.std.proofs.Common.{length-append}
use Rattle.std.proofs.lemmas.List.{map-append}
use mathlib.Core.Logic.{dite}
use native.Mathlib.Decide.{ℕ_discrete}
use Rattle.run_record.specs.declared.entry.Check.{Check}
use Rattle.turn_orders.specs.Lists.{Each, In, InOrder}
use Rattle.turn_orders.proofs.Members.{at_member, all_members, each_append, order_append}
use Rattle.shared_table.specs.declared.view.Item.{Item}
use Rattle.shared_table.specs.Past.{Past, Log, log_of}
use Rattle.shared_table.proofs.Pasts.{if_here, if_else, log_else}
use Rattle.woven_turns.specs.Steps.{Stands}
use Rattle.woven_turns.proofs.Standing.{stands_len, step_by}
use Rattle.woven_turns.proofs.Weaving.{in_left, in_right}
use Rattle.hart_parts.specs.Parts.{touches_of, all_touches}
use Rattle.cell_loads.specs.Spans.{Step, IsSooner, Checked, steps_of, AreSooner}
use Rattle.cell_loads.proofs.Lists.{order_parts, flat_in, parted}

abbrev pub item_of : Step → Item
item_of s = s.0

-- a step that a seat made in the part `late` of a past, after the steps `early`
pub record IsLate (early late : Past) (n : ℕ) (s : Step) : Type 0 where
  pub made : Past
  pub stands : Stands late made (n, s.0)
  pub place : length (made ++ early) ≡ s.1

-- the steps of a seat, the oldest first
abbrev pub seat_steps : Past → ℕ → Past → List Step
seat_steps early n [] = []
seat_steps early n (x ∷ late) =
    if x.0 == n then seat_steps early n late ++ (x.1, length (late ++ early)) ∷ [] else seat_steps early n late

module _ (early : Past) (n : ℕ) where
  abbrev newest : (x : ℕ × Item) (late : Past) → Step
  newest x late = (x.1, length (late ++ early))

  mine : (x : ℕ × Item) (late : Past) → x.0 ≡ n → seat_steps early n (x ∷ late) ≡ seat_steps early n late ++ newest x late ∷ []
  mine x late e = if_here x.0 n (seat_steps early n late ++ newest x late ∷ []) (seat_steps early n late) e

  others : (x : ℕ × Item) (late : Past) → (x.0 ≡ n → ⊥) → seat_steps early n (x ∷ late) ≡ seat_steps early n late
  others x late o = if_else x.0 n (seat_steps early n late ++ newest x late ∷ []) (seat_steps early n late) o

  -- their items are the seat's log
  pub seat_log : (late : Past) → map item_of (seat_steps early n late) ≡ log_of n late
  seat_log [] = refl
  seat_log (x ∷ late) = dite (ℕ_discrete x.0 n)
      (λ e. ap (map item_of) (mine x late e) ∙ (map-append item_of (seat_steps early n late) (newest x late ∷ [])
      ∙ (ap (λ (l : Log). l ++ x.1 ∷ []) (seat_log late) ∙ sym (if_here x.0 n (log_of n late ++ x.1 ∷ []) (log_of n late) e))))
      (λ o. ap (map item_of) (others x late o) ∙ (seat_log late ∙ sym (log_else late x.0 n x.1 o)))

  later : (x : ℕ × Item) (late : Past) (s : Step) → IsLate early late n s → IsLate early (x ∷ late) n s
  later x late s h = record { made = h.made; stands = inr h.stands; place = h.place }

  pub seat_late : (late : Past) → Each (IsLate early late n) (seat_steps early n late)
  seat_late [] = tt
  seat_late (x ∷ late) =
      let rest = all_members (IsLate early (x ∷ late) n) (seat_steps early n late)
      (λ s i. later x late s (at_member (IsLate early late n) s (seat_steps early n late) (seat_late late) i)) in
      dite (ℕ_discrete x.0 n)
      (λ e. subst (Each (IsLate early (x ∷ late) n)) (sym (mine x late e))
      (each_append (IsLate early (x ∷ late) n) (seat_steps early n late) (newest x late ∷ []) rest
      (record { made = late; stands = inl (ap (λ (m : ℕ). step_by m x.1) e, refl); place = refl }, tt)))
      (λ o. subst (Each (IsLate early (x ∷ late) n)) (sym (others x late o)) rest)

  pub late_bounds : (late : Past) (s : Step) → IsLate early late n s → (length early ≤ s.1) × (s.1 < length (late ++ early))
  late_bounds late s h =
      let a = stands_len late h.made (n, s.0) h.stands in
      let b = h.place in
      (omega (arith, b, length-append h.made early), omega (arith, a, b, length-append h.made early, length-append late early))

  pub seat_order : (late : Past) → InOrder IsSooner (seat_steps early n late)
  seat_order [] = tt
  seat_order (x ∷ late) = dite (ℕ_discrete x.0 n)
      (λ e. subst (InOrder IsSooner) (sym (mine x late e))
      (order_append IsSooner (seat_steps early n late) (newest x late ∷ []) (seat_order late) (tt, tt) last))
      (λ o. subst (InOrder IsSooner) (sym (others x late o)) (seat_order late))
    where
      last : (s u : Step) → In s (seat_steps early n late) → In u (newest x late ∷ []) → IsSooner s u
      last s u i (inl q) =
          let b = late_bounds late s (at_member (IsLate early late n) s (seat_steps early n late) (seat_late late) i) in
          let c = b.1 in
          let d : u.1 ≡ length (late ++ early) = ap (λ (z : Step). z.1) q in
          omega arith
      last s u i (inr j) = absurd j

  -- each step of the seat is among them
  pub seat_has : (late made : Past) (y : Item) → Stands late made (n, y) → In (y, length (made ++ early)) (seat_steps early n late)
  seat_has [] made y h = absurd h
  seat_has (x ∷ late) made y (inl q) =
      let e : x.0 ≡ n = ap (λ (z : ℕ × Item). z.0) q.0 in
      let f : x.1 ≡ y = ap (λ (z : ℕ × Item). z.1) q.0 in
      let g : length (late ++ early) ≡ length (made ++ early) = ap (λ (z : Past). length (z ++ early)) q.1 in
      let same : newest x late ≡ (y, length (made ++ early)) = ap (λ (z : Item). (z, length (late ++ early))) f ∙ ap (λ (m : ℕ). (y, m)) g in
      subst (λ (l : List Step). In (y, length (made ++ early)) l) (sym (mine x late e))
      (in_right (y, length (made ++ early)) (seat_steps early n late) (newest x late ∷ []) (inl (sym same)))
  seat_has (x ∷ late) made y (inr s) = dite (ℕ_discrete x.0 n)
      (λ e. subst (λ (l : List Step). In (y, length (made ++ early)) l) (sym (mine x late e))
      (in_left (y, length (made ++ early)) (seat_steps early n late) (newest x late ∷ []) (seat_has late made y s)))
      (λ o. subst (λ (l : List Step). In (y, length (made ++ early)) l) (sym (others x late o)) (seat_has late made y s))

-- ---- checks

-- the checks with the steps that are theirs
pub record Cut (cs : List Check) (ss : List Step) : Type 0 where
  pub checked : List Checked
  pub checks : map (λ (c : Checked). c.check) checked ≡ cs
  pub steps : steps_of checked ≡ ss
  pub touches : Each (λ (c : Checked). map item_of c.steps ≡ touches_of c.check) checked

no_steps : (ss : List Step) → map item_of ss ≡ [] → ss ≡ []
no_steps [] e = refl
no_steps (s ∷ ss) e = absurd (cc)

pub cut : (cs : List Check) (ss : List Step) → map item_of ss ≡ all_touches cs → Cut cs ss
cut [] ss e = record { checked = []; checks = refl; steps = sym (no_steps ss e); touches = tt }
cut (c ∷ cs) ss e =
    let r = parted item_of ss (touches_of c) (all_touches cs) e in
    let rest = cut cs r.back r.backs in
    record {
      checked = record { check = c; steps = r.front } ∷ rest.checked;
      checks = ap (λ (l : List Check). c ∷ l) rest.checks;
      steps = ap (λ (l : List Step). r.front ++ l) rest.steps ∙ sym r.whole;
      touches = (r.fronts, rest.touches);
    }

pub checked_steps : (c : Checked) (s : Step) (cs : List Checked) → In c cs → In s c.steps → In s (steps_of cs)
checked_steps c s cs i j = flat_in (λ (d : Checked). d.steps) c s cs i j

-- what is so of steps in order is so of their checks
pub checked_order : (cs : List Checked) → InOrder IsSooner (steps_of cs) → InOrder AreSooner cs × Each (λ (c : Checked). InOrder IsSooner c.steps) cs
checked_order [] h = (tt, tt)
checked_order (c ∷ cs) h =
    let p = order_parts IsSooner c.steps (steps_of cs) h in
    let r = checked_order cs p.1 in
    ((all_members (AreSooner c) cs (λ d i s u j k. p.2 s u j (checked_steps d u cs i k)), r.0), (p.0, r.1))

pub single : {X Y : Type 0} (f : X → Y) (zs : List X) (y : Y) → map f zs ≡ y ∷ [] → (z : X) × (zs ≡ z ∷ []) × (f z ≡ y)
single f [] y e = absurd (cc)
single {X} {Y} f (z ∷ []) y e = (z, refl, head)
  where
    head : f z ≡ y
    head = cc
single f (z ∷ (w ∷ zs)) y e = absurd (cc)

-- Pasts of the table: their cuts along the opening seat's log, which seats were joined, and a turn that stands alone.
use Rattle.std.proofs.Common.{◌≡◌, ◌≢◌, ◌<◌, ◌+◌, ℕ, zero, suc, None, Some, List, [], ◌∷◌, ◌++◌, length, inl, inr, refl, sym, ap, subst, ◌∙◌, arith, length-append}
use mathlib.Core.Logic.{dite}
use mathlib.Core.Option.{some, some-injective, some-ne-none}
use native.Mathlib.Decide.{ℕ_discrete}
use lib.ListN.{get_elem?}
use Rattle.std.proofs.lemmas.Bool.{cases_lt}
use Rattle.atomic_table.proofs.Lists.{set_here}
use Rattle.shared_table.specs.declared.view.Item.{Item}
use Rattle.shared_table.specs.declared.view.Item.TheVariants.{Split, Join, Take, Give, Load, Store}
use Rattle.shared_table.specs.declared.view.Layout.{Layout}
use Rattle.shared_table.specs.Past.{Log, Past, log_of, logs_of, Allowed, Lawful}
use Rattle.shared_table.specs.Laws.{splits_in, below}
use Rattle.shared_table.proofs.Pasts.{if_here, some_below, log_mine, log_else, fresh_log}
use Rattle.shared_table.proofs.PastLaws.{IsJoined, join_last, earlier, splits_are}
use Rattle.turn_orders.specs.Lists.{Each, In}
use Rattle.woven_turns.proofs.Weaving.{in_parts}
use Rattle.woven_turns.proofs.Cutting.{log_append, cut_at}
use Rattle.cell_loads.specs.Pasts.{TouchesNone, AreQuiet}

-- ---- lists

module _ {X : Type 0} where
  -- lists that begin with as many elements end alike
  same_halves : (a b c d : List X) → length a ≡ length c → a ++ b ≡ c ++ d → (a ≡ c) × (b ≡ d)
  same_halves [] b [] d l e = (refl, e)
  same_halves [] b (y ∷ c) d l e = absurd (let z : 0 ≡ suc (length c) = l in omega (arith, z))
  same_halves (x ∷ a) b [] d l e = absurd (let z : suc (length a) ≡ 0 = l in omega (arith, z))
  same_halves (x ∷ a) b (y ∷ c) d l e =
      let z : suc (length a) ≡ suc (length c) = l in
      let heads : x ≡ y = cc in
      let tails : a ++ b ≡ c ++ d = cc in
      let r = same_halves a b c d (omega (arith, z)) tails in
      (ap (λ (w : X). w ∷ a) heads ∙ ap (λ (w : List X). y ∷ w) r.0, r.1)

  -- what holds of each element holds of the one at a place
  pub at_place : (P : X → Type 0) (l : List X) (j : ℕ) (x : X) → Each P l → get_elem? l j ≡ some x → P x
  at_place P [] j x h e = absurd (some-ne-none x (sym e))
  at_place P (y ∷ l) zero x h e = subst P (some-injective y x e) h.0
  at_place P (y ∷ l) (suc j) x h e = at_place P l j x h.1 e

  pub none_here : (l : List X) (j : ℕ) (x : X) → l ≡ [] → get_elem? l j ≡ some x → ⊥
  none_here l j x e at = some-ne-none x (sym (ap (λ (z : List X). get_elem? z j) (sym e) ∙ at))

  pub nothing_first : (xs ys : List X) → xs ++ ys ≡ [] → (xs ≡ []) × (ys ≡ [])
  nothing_first [] ys e = (refl, e)
  nothing_first (x ∷ xs) ys e = absurd (cc)

  not_empty : (xs : List X) (x : X) → xs ++ x ∷ [] ≡ [] → ⊥
  not_empty xs x e = let z : length xs + 1 ≡ 0 = sym (length-append xs (x ∷ [])) ∙ ap length e in omega (arith, z)

  longer : (b : X) (ys : List X) (y : X) → length ((b ∷ ys) ++ y ∷ []) ≡ length ys + 1 + 1
  longer b ys y =
      let q : length ((b ∷ ys) ++ y ∷ []) ≡ length (b ∷ ys) + 1 = length-append (b ∷ ys) (y ∷ []) in
      let p : length (b ∷ ys) ≡ suc (length ys) = refl in
      omega (arith, q, p)

  last_same : (xs ys : List X) (x y : X) → xs ++ x ∷ [] ≡ ys ++ y ∷ [] → (xs ≡ ys) × (x ≡ y)
  last_same [] [] x y e = (refl, let q : x ≡ y = cc in q)
  last_same [] (b ∷ ys) x y e = absurd (let l : 1 ≡ length ys + 1 + 1 = ap length e ∙ longer b ys y in omega (arith, l))
  last_same (a ∷ xs) [] x y e = absurd (let l : length xs + 1 + 1 ≡ 1 = sym (longer a xs x) ∙ ap length e in omega (arith, l))
  last_same (a ∷ xs) (b ∷ ys) x y e =
      let heads : a ≡ b = cc in
      let tails : xs ++ x ∷ [] ≡ ys ++ y ∷ [] = cc in
      let r = last_same xs ys x y tails in
      (ap (λ (w : X). w ∷ xs) heads ∙ ap (λ (w : List X). b ∷ w) r.0, r.1)

-- ---- cuts

-- a past, cut where the opening seat's log is
pub record Cut (past : Past) (first behind : Log) : Type 0 where
  pub early : Past
  pub late : Past
  pub whole : past ≡ late ++ early
  pub first_is : log_of 0 early ≡ first
  pub behind_is : log_of 0 late ≡ behind

pub cut_own : (lay : Layout) (past : Past) (first behind : Log) → log_of 0 past ≡ first ++ behind → Cut past first behind
cut_own lay past first behind e =
    let long : length (log_of 0 past) ≡ length first + length behind = ap length e ∙ length-append first behind in
    let c = cut_at lay past (length first) (omega (arith, long)) in
    let parts = same_halves (log_of 0 c.1) (log_of 0 c.0) first behind c.3 (sym (log_append 0 c.0 c.1) ∙ (sym (ap (log_of 0) c.2) ∙ e)) in
    record { early = c.1; late = c.0; whole = c.2; first_is = parts.0; behind_is = parts.1 }

-- ---- splits

below_long : (n : ℕ) → length (below n) ≡ n
below_long zero = refl
below_long (suc n) = let e = below_long n in omega (arith, e, length-append (below n) (n ∷ []))

splits_both : (xs ys : Log) → splits_in (xs ++ ys) ≡ splits_in xs ++ splits_in ys
splits_both [] ys = refl
splits_both (Split m ∷ xs) ys = ap (λ (z : List ℕ). m ∷ z) (splits_both xs ys)
splits_both (Join m ∷ xs) ys = splits_both xs ys
splits_both (Take j t ∷ xs) ys = splits_both xs ys
splits_both (Give j t f g ∷ xs) ys = splits_both xs ys
splits_both (Load c w ∷ xs) ys = splits_both xs ys
splits_both (Store c w ∷ xs) ys = splits_both xs ys

-- ---- seats

module _ (lay : Layout) where
  joined_stays : (past : Past) (m n : ℕ) (x : Item) (l : Log) → Lawful lay ((m, x) ∷ past) → IsJoined lay past n l → IsJoined lay ((m, x) ∷ past) n l
  joined_stays past m n x l h j = (join_last lay ((m, x) ∷ []) past n l h j).1

  -- a join in the opening seat's log has joined
  pub joined_of : (past : Past) (n : ℕ) → Lawful lay past → In (Join n) (log_of 0 past) → (l : Log) × IsJoined lay past n l
  joined_of [] n h i = absurd i
  joined_of ((m, x) ∷ past) n h i = dite (ℕ_discrete m 0)
      (λ e. elim (in_parts (Join n) (log_of 0 past) (x ∷ []) (subst (In (Join n)) (if_here m 0 (log_of 0 past ++ x ∷ []) (log_of 0 past) e) i)) [
        | inl j ↦ let r = joined_of past n h.2 j in (r.0, joined_stays past m n x r.0 h r.1)
        | inr j ↦ elim j [
          | inl q ↦ now x q h.1
          | inr z ↦ absurd z
        ]
      ])
      (λ o. let r = joined_of past n h.2 (subst (In (Join n)) (log_else past m 0 x o) i) in (r.0, joined_stays past m n x r.0 h r.1))
    where
      now : (x : Item) → Join n ≡ x → Allowed lay past m x → (l : Log) × IsJoined lay ((m, x) ∷ past) n l
      now (Join j) q a =
          let e : n ≡ j = cc in (
            log_of j past,
            subst (λ (z : ℕ). IsJoined lay ((m, Join j) ∷ past) z (log_of j past)) (sym e)
                (set_here (logs_of past) j (Some (log_of j past)) (some_below (logs_of past) j None a.2)),
          )
      now (Split j) q a = absurd (cc)
      now (Take j i) q a = absurd (cc)
      now (Give j i f l) q a = absurd (cc)
      now (Load c w) q a = absurd (cc)
      now (Store c w) q a = absurd (cc)

  -- how many seats a part of the past made
  pub more_seats : (late early : Past) → Lawful lay (late ++ early) →
      length (logs_of (late ++ early)) ≡ length (logs_of early) + length (splits_in (log_of 0 late))
  more_seats late early law =
      let all = ap length (splits_are lay (late ++ early) law) ∙ below_long (length (logs_of (late ++ early))) in
      let part = ap length (splits_are lay early (earlier lay late early law)) ∙ below_long (length (logs_of early)) in
      let a : suc (length (splits_in (log_of 0 (late ++ early)))) ≡ length (logs_of (late ++ early)) = all in
      let b : suc (length (splits_in (log_of 0 early))) ≡ length (logs_of early) = part in
      let c = ap length (ap splits_in (log_append 0 late early) ∙ splits_both (log_of 0 early) (log_of 0 late))
      ∙ length-append (splits_in (log_of 0 early)) (splits_in (log_of 0 late)) in
      omega (arith, a, b, c)

-- ---- where only the opening seat makes steps

abbrev pub OnlyOpening : Past → Type 0
OnlyOpening past = (n : ℕ) → n ≢ 0 → log_of n past ≡ []

-- behind a part of the past in which each seat was joined, if no seat is made
pub only_opening : (lay : Layout) (late early : Past) → Lawful lay (late ++ early) → splits_in (log_of 0 late) ≡ [] →
    ((n : ℕ) → n ≢ 0 → n < length (logs_of early) → (l : Log) × IsJoined lay early n l) → OnlyOpening late
only_opening lay late early law none joined n ne = elim (cases_lt n (length (logs_of early))) [
  | inl l ↦ let j = joined n ne l in (join_last lay late early n j.0 law j.1).0
  | inr l ↦
      let long = more_seats lay late early law in
      let zero_more : length (splits_in (log_of 0 late)) ≡ 0 = ap length none in
      (nothing_first (log_of n early) (log_of n late)
      (sym (log_append n late early) ∙ fresh_log lay (late ++ early) n law (omega (arith, l, long, zero_more)))).1
]

-- the newest step is the opening seat's
newest : (n : ℕ) (x : Item) (past : Past) → OnlyOpening ((n, x) ∷ past) → n ≡ 0
newest n x past only = dite (ℕ_discrete n 0) (λ e. e) (λ ne. absurd (not_empty (log_of n past) x (sym (log_mine past n x) ∙ only n ne)))

older : (n : ℕ) (x : Item) (past : Past) → OnlyOpening ((n, x) ∷ past) → OnlyOpening past
older n x past only m ne =
    sym (log_else past n m x (λ e. ne (sym e ∙ newest n x past only))) ∙ only m ne

log_then : (n : ℕ) (x : Item) (past : Past) → OnlyOpening ((n, x) ∷ past) → log_of 0 ((n, x) ∷ past) ≡ log_of 0 past ++ x ∷ []
log_then n x past only = if_here n 0 (log_of 0 past ++ x ∷ []) (log_of 0 past) (newest n x past only)

-- so its steps are its log's
pub quiet_alone : (past : Past) → OnlyOpening past → Each TouchesNone (log_of 0 past) → AreQuiet past
quiet_alone [] only h = tt
quiet_alone ((n, x) ∷ past) only h =
    let each = subst (Each TouchesNone) (log_then n x past only) h in
    let parts = last_each (log_of 0 past) x each in
    (parts.1, quiet_alone past (older n x past only) parts.0)
  where
    last_each : (l : Log) (y : Item) → Each TouchesNone (l ++ y ∷ []) → Each TouchesNone l × TouchesNone y
    last_each [] y h = (tt, h.0)
    last_each (z ∷ l) y h = let r = last_each l y h.1 in ((h.0, r.0), r.1)

no_step : (past : Past) → OnlyOpening past → log_of 0 past ≡ [] → past ≡ []
no_step [] only e = refl
no_step ((n, x) ∷ past) only e = absurd (not_empty (log_of 0 past) x (sym (log_then n x past only) ∙ e))

-- one item is one step, and two are two
pub one_step : (past : Past) (a : Item) → OnlyOpening past → log_of 0 past ≡ a ∷ [] → past ≡ (0, a) ∷ []
one_step [] a only e = absurd (cc)
one_step ((n, x) ∷ past) a only e =
    let last = last_same (log_of 0 past) [] x a (sym (log_then n x past only) ∙ e) in
    ap (λ (y : ℕ × Item). y ∷ past) (ap (λ (m : ℕ). (m, x)) (newest n x past only) ∙ ap (λ (i : Item). (0, i)) last.1)
    ∙ ap (λ (p : Past). (0, a) ∷ p) (no_step past (older n x past only) last.0)

pub two_steps : (past : Past) (a b : Item) → OnlyOpening past → log_of 0 past ≡ a ∷ b ∷ [] → past ≡ (0, b) ∷ (0, a) ∷ []
two_steps [] a b only e = absurd (cc)
two_steps ((n, x) ∷ past) a b only e =
    let last = last_same (log_of 0 past) (a ∷ []) x b (sym (log_then n x past only) ∙ e) in
    ap (λ (y : ℕ × Item). y ∷ past) (ap (λ (m : ℕ). (m, x)) (newest n x past only) ∙ ap (λ (i : Item). (0, i)) last.1)
    ∙ ap (λ (p : Past). (0, b) ∷ p) (one_step past a (older n x past only) last.0)

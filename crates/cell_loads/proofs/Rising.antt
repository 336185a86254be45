-- What doesn't fall along a part of a past, at one object.
use Rattle.std.proofs.Common.{◌≡◌, ℕ, ◌+◌, ◌≤◌, [], ◌∷◌, ◌++◌, None, Some, inl, inr, refl, ap, subst, arith}
use mathlib.Core.Logic.{dite}
use native.Mathlib.Decide.{ℕ_discrete}
use Rattle.shared_table.specs.declared.object.Object.{Object}
use Rattle.shared_table.specs.declared.view.Item.{Item}
use Rattle.shared_table.specs.declared.view.Item.TheVariants.{Split, Join, Take, Give, Load, Store}
use Rattle.shared_table.specs.declared.view.Layout.{Layout}
use Rattle.shared_table.specs.Past.{Slot, Past, Turns, turns_at, turns_of, Allowed, Lawful}
use Rattle.shared_table.proofs.Pasts.{if_here, if_else}
use Rattle.woven_turns.specs.Steps.{Stands, Raises, AllRaise}
use Rattle.woven_turns.proofs.Standing.{Suffix, stands_suffix, stands_more, lawful_at}

module _ (lay : Layout) (measure : Object → ℕ) where
  abbrev measured : Slot → ℕ
  measured None = 0
  measured (Some x) = measure x

  one_step : (k n : ℕ) (x : Item) (past : Past) → Allowed lay past n x → Raises measure x → measured (turns_of lay k past).value ≤ measured
      (turns_of lay k ((n, x) ∷ past)).value
  one_step k n (Split m) past a r = omega arith
  one_step k n (Join m) past a r = omega arith
  one_step k n (Load c w) past a r = omega arith
  one_step k n (Store c w) past a r = omega arith
  one_step k n (Take j t) past a r = let st : Turns = turns_of lay k past in dite (ℕ_discrete j k)
      (λ e. let q = ap (λ (z : Turns). measured z.value) (if_here j k (turns_at st.done st.value (Some n)) st e) in omega arith)
      (λ o. let q = ap (λ (z : Turns). measured z.value) (if_else j k (turns_at st.done st.value (Some n)) st o) in omega arith)
  one_step k n (Give j t f l) past a r = let st : Turns = turns_of lay k past in dite (ℕ_discrete j k)
      (λ e. let q = ap (λ (z : Turns). measured z.value) (if_here j k (turns_at (st.done + 1) (Some l) None) st e) in
      let v = ap measured (subst (λ (z : ℕ). (turns_of lay z past).value ≡ Some f) e a.3) in omega arith)
      (λ o. let q = ap (λ (z : Turns). measured z.value) (if_else j k (turns_at (st.done + 1) (Some l) None) st o) in omega arith)

  grows : (k : ℕ) (s late early : Past) → Lawful lay (late ++ early) → AllRaise measure late → Suffix s late →
      measured (turns_of lay k (s ++ early)).value ≤ measured (turns_of lay k (late ++ early)).value
  grows k s [] early h r e = let q = ap (λ (z : Past). measured (turns_of lay k (z ++ early)).value) e in omega arith
  grows k s (x ∷ late) early h r (inl e) = let q = ap (λ (z : Past). measured (turns_of lay k (z ++ early)).value) e in omega arith
  grows k s (x ∷ late) early h r (inr i) = let q = grows k s late early h.2 r.1 i in let p = one_step k x.0 x.1 (late ++ early) h.1 r.0 in omega arith

  raised_at : (past early : Past) (y : ℕ × Item) → AllRaise measure past → Stands past early y → AllRaise measure early
  raised_at [] early y r s = absurd s
  raised_at (x ∷ past) early y r (inl e) = subst (AllRaise measure) e.1 r.1
  raised_at (x ∷ past) early y r (inr s) = raised_at past early y r.1 s

  -- an empty part of the past comes before each
  none_before : (late : Past) → Suffix [] late
  none_before [] = refl
  none_before (x ∷ late) = inr (none_before late)

  module _ (early late : Past) (law : Lawful lay (late ++ early)) (raise : AllRaise measure late) where
    -- what a turn finds is what the object had then
    found_there : (k n i : ℕ) (f l : Object) (e : Past) → Stands late e (n, Give k i f l) → ((turns_of lay k (e ++ early)).value ≡ Some f) × Lawful lay
        (e ++ early)
    found_there k n i f l e s = let a = lawful_at lay (late ++ early) (e ++ early) (n, Give k i f l) law (stands_more late early e (n, Give k i f l) s) in
        (a.0.3, a.1)

    -- a turn finds no less than an earlier one left
    pub later_found : (k n m i j : ℕ) (f l f' l' : Object) (e1 e2 : Past) → Stands late e2 (m, Give k j f' l') → Stands e2 e1 (n, Give k i f l) →
        measure l ≤ measure f'
    later_found k n m i j f l f' l' e1 e2 b s =
        let a = found_there k m j f' l' e2 b in
        let g = grows k ((n, Give k i f l) ∷ e1) e2 early a.1 (raised_at late e2 (m, Give k j f' l') raise b) (stands_suffix e2 e1 (n, Give k i f l) s) in
        let q = ap (λ (z : Turns). measured z.value)
        (if_here k k (turns_at ((turns_of lay k (e1 ++ early)).done + 1) (Some l) None) (turns_of lay k (e1 ++ early)) refl) in
        let v = ap measured a.0 in
        omega arith

    -- nor less than there was at first
    pub first_found : (k n i : ℕ) (f l x : Object) (e : Past) → (turns_of lay k early).value ≡ Some x → Stands late e (n, Give k i f l) →
        measure x ≤ measure f
    first_found k n i f l x e has s =
        let a = found_there k n i f l e s in
        let g = grows k [] e early a.1 (raised_at late e (n, Give k i f l) raise s) (none_before e) in
        let q = ap measured has in
        let v = ap measured a.0 in
        omega arith

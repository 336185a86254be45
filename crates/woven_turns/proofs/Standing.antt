-- Steps of a past in their order.
use Rattle.std.proofs.Common.{◌≡◌, ℕ, ◌+◌, ◌<◌, ◌≤◌, [], ◌∷◌, ◌++◌, length, None, Some, ◌⊎◌, inl, inr, refl, sym, ap, ◌∙◌, subst, arith}
use mathlib.Core.Logic.{dite}
use native.Mathlib.Decide.{ℕ_discrete}
use Rattle.shared_table.specs.declared.object.Object.{Object}
use Rattle.shared_table.specs.declared.view.Item.{Item}
use Rattle.shared_table.specs.declared.view.Item.TheVariants.{Split, Join, Take, Give, Load, Store}
use Rattle.shared_table.specs.declared.view.Layout.{Layout}
use Rattle.shared_table.specs.Past.{Slot, Past, Turns, turns_at, turns_after, turns_of, Allowed, Lawful}
use Rattle.shared_table.proofs.Pasts.{if_here, if_else}
use Rattle.woven_turns.specs.Steps.{Stands, Raises, AllRaise}

-- the steps s are the past, or what it was after some of its steps
abbrev pub Suffix : Past → Past → Type 0
Suffix s [] = [] ≡ s
Suffix s (x ∷ past) = (x ∷ past ≡ s) ⊎ Suffix s past

-- the step of a seat
abbrev pub step_by : ℕ → Item → ℕ × Item
step_by n x = (n, x)

pub suffix_all : (past : Past) → Suffix past past
suffix_all [] = refl
suffix_all (x ∷ past) = inl refl

pub suffix_len : (s past : Past) → Suffix s past → length s ≤ length past
suffix_len s [] e = let q = ap length e in omega arith
suffix_len s (x ∷ past) (inl e) = let q = ap length e in omega arith
suffix_len s (x ∷ past) (inr i) = let q = suffix_len s past i in omega arith

pub stands_suffix : (past early : Past) (y : ℕ × Item) → Stands past early y → Suffix (y ∷ early) past
stands_suffix [] early y h = absurd h
stands_suffix (x ∷ past) early y (inl e) = inl (ap (λ (z : ℕ × Item). z ∷ past) e.0 ∙ ap (λ (z : Past). y ∷ z) e.1)
stands_suffix (x ∷ past) early y (inr h) = inr (stands_suffix past early y h)

pub tail_suffix : (past early : Past) (y : ℕ × Item) → Stands past early y → Suffix early past
tail_suffix [] early y h = absurd h
tail_suffix (x ∷ past) early y (inl e) = inr (subst (λ (z : Past). Suffix z past) e.1 (suffix_all past))
tail_suffix (x ∷ past) early y (inr h) = inr (tail_suffix past early y h)

pub stands_len : (past early : Past) (y : ℕ × Item) → Stands past early y → length early < length past
stands_len past early y h = let q = suffix_len (y ∷ early) past (stands_suffix past early y h) in omega arith

-- of two steps one is before the other, or they are one
pub two : (past e1 e2 : Past) (y1 y2 : ℕ × Item) → Stands past e1 y1 → Stands past e2 y2 → Stands e2 e1 y1 ⊎ (Stands e1 e2 y2 ⊎ ((y1 ≡ y2) × (e1 ≡ e2)))
two [] e1 e2 y1 y2 h k = absurd h
two (x ∷ past) e1 e2 y1 y2 (inl a) (inl b) = inr (inr (sym a.0 ∙ b.0, sym a.1 ∙ b.1))
two (x ∷ past) e1 e2 y1 y2 (inl a) (inr k) = inr (inl (subst (λ (z : Past). Stands z e2 y2) a.1 k))
two (x ∷ past) e1 e2 y1 y2 (inr h) (inl b) = inl (subst (λ (z : Past). Stands z e1 y1) b.1 h)
two (x ∷ past) e1 e2 y1 y2 (inr h) (inr k) = two past e1 e2 y1 y2 h k

-- the lower place is the earlier step
pub earlier_stands : (past e1 e2 : Past) (y1 y2 : ℕ × Item) → Stands past e1 y1 → Stands past e2 y2 → length e1 < length e2 → Stands e2 e1 y1
earlier_stands past e1 e2 y1 y2 h k l = go (two past e1 e2 y1 y2 h k)
  where
    go : Stands e2 e1 y1 ⊎ (Stands e1 e2 y2 ⊎ ((y1 ≡ y2) × (e1 ≡ e2))) → Stands e2 e1 y1
    go (inl a) = a
    go (inr (inl b)) = absurd (let q = stands_len e1 e2 y2 b in omega arith)
    go (inr (inr c)) = absurd (let q = ap length c.1 in omega arith)

-- what stands in a part of a past stands in the whole
pub stands_more : (late early e : Past) (y : ℕ × Item) → Stands late e y → Stands (late ++ early) (e ++ early) y
stands_more [] early e y s = absurd s
stands_more (x ∷ late) early e y (inl q) = inl (q.0, ap (λ (z : Past). z ++ early) q.1)
stands_more (x ∷ late) early e y (inr s) = inr (stands_more late early e y s)

pub stands_further : (past early e : Past) (y y' : ℕ × Item) → Stands past early y → Stands early e y' → Stands past e y'
stands_further [] early e y y' s t = absurd s
stands_further (x ∷ past) early e y y' (inl q) t = inr (subst (λ (z : Past). Stands z e y') (sym q.1) t)
stands_further (x ∷ past) early e y y' (inr s) t = inr (stands_further past early e y y' s t)

module _ (lay : Layout) where
  pub lawful_at : (past early : Past) (y : ℕ × Item) → Lawful lay past → Stands past early y → Allowed lay early y.0 y.1 × Lawful lay early
  lawful_at [] early y h s = absurd s
  lawful_at (x ∷ past) early y h (inl e) = (
    subst (λ (z : ℕ × Item). Allowed lay early z.0 z.1) e.0 (subst (λ (z : Past). Allowed lay z x.0 x.1) e.1 h.1),
    subst (Lawful lay) e.1 h.2,
  )
  lawful_at (x ∷ past) early y h (inr s) = lawful_at past early y h.2 s

  done_step : (k n : ℕ) (x : Item) (st : Turns) → st.done ≤ (turns_after k n x st).done
  done_step k n (Split m) st = omega arith
  done_step k n (Join m) st = omega arith
  done_step k n (Load c w) st = omega arith
  done_step k n (Store c w) st = omega arith
  done_step k n (Take j t) st = dite (ℕ_discrete j k)
      (λ e. let q = ap (λ (z : Turns). z.done) (if_here j k (turns_at st.done st.value (Some n)) st e) in omega arith)
      (λ o. let q = ap (λ (z : Turns). z.done) (if_else j k (turns_at st.done st.value (Some n)) st o) in omega arith)
  done_step k n (Give j t f l) st = dite (ℕ_discrete j k)
      (λ e. let q = ap (λ (z : Turns). z.done) (if_here j k (turns_at (st.done + 1) (Some l) None) st e) in omega arith)
      (λ o. let q = ap (λ (z : Turns). z.done) (if_else j k (turns_at (st.done + 1) (Some l) None) st o) in omega arith)

  -- finished turns don't get fewer
  pub done_grows : (k : ℕ) (s past : Past) → Suffix s past → (turns_of lay k s).done ≤ (turns_of lay k past).done
  done_grows k s [] e = let q = ap (λ (z : Past). (turns_of lay k z).done) e in omega arith
  done_grows k s (x ∷ past) (inl e) = let q = ap (λ (z : Past). (turns_of lay k z).done) e in omega arith
  done_grows k s (x ∷ past) (inr i) = let q = done_grows k s past i in let r = done_step k x.0 x.1 (turns_of lay k past) in omega arith

  module _ (value_stamp : Object → ℕ) where
    abbrev stamp_of : Slot → ℕ
    stamp_of None = 0
    stamp_of (Some x) = value_stamp x

    stamp_step : (k n : ℕ) (x : Item) (past : Past) → Allowed lay past n x → Raises value_stamp x → stamp_of (turns_of lay k past).value ≤ stamp_of (turns_of lay k ((n, x) ∷ past)).value
    stamp_step k n (Split m) past a r = omega arith
    stamp_step k n (Join m) past a r = omega arith
    stamp_step k n (Load c w) past a r = omega arith
    stamp_step k n (Store c w) past a r = omega arith
    stamp_step k n (Take j t) past a r = let st : Turns = turns_of lay k past in dite (ℕ_discrete j k)
        (λ e. let q = ap (λ (z : Turns). stamp_of z.value) (if_here j k (turns_at st.done st.value (Some n)) st e) in omega arith)
        (λ o. let q = ap (λ (z : Turns). stamp_of z.value) (if_else j k (turns_at st.done st.value (Some n)) st o) in omega arith)
    stamp_step k n (Give j t f l) past a r = let st : Turns = turns_of lay k past in dite (ℕ_discrete j k)
        (λ e. let q = ap (λ (z : Turns). stamp_of z.value) (if_here j k (turns_at (st.done + 1) (Some l) None) st e) in
        let v = ap stamp_of (subst (λ (z : ℕ). (turns_of lay z past).value ≡ Some f) e a.3) in omega arith)
        (λ o. let q = ap (λ (z : Turns). stamp_of z.value) (if_else j k (turns_at (st.done + 1) (Some l) None) st o) in omega arith)

    -- an object's stamp doesn't fall along a part of a past whose gives raise it
    stamp_grows : (k : ℕ) (s late early : Past) → Lawful lay (late ++ early) → AllRaise value_stamp late → Suffix s late → stamp_of (turns_of lay k (s ++ early)).value ≤ stamp_of (turns_of lay k (late ++ early)).value
    stamp_grows k s [] early h r e = let q = ap (λ (z : Past). stamp_of (turns_of lay k (z ++ early)).value) e in omega arith
    stamp_grows k s (x ∷ late) early h r (inl e) = let q = ap (λ (z : Past). stamp_of (turns_of lay k (z ++ early)).value) e in omega arith
    stamp_grows k s (x ∷ late) early h r (inr i) = let q = stamp_grows k s late early h.2 r.1 i in let p = stamp_step k x.0 x.1 (late ++ early) h.1 r.0 in omega arith

    raise_at : (past early : Past) (y : ℕ × Item) → AllRaise value_stamp past → Stands past early y → Raises value_stamp y.1 × AllRaise value_stamp early
    raise_at [] early y r s = absurd s
    raise_at (x ∷ past) early y r (inl e) = (subst (λ (z : ℕ × Item). Raises value_stamp z.1) e.0 r.0, subst (AllRaise value_stamp) e.1 r.1)
    raise_at (x ∷ past) early y r (inr s) = raise_at past early y r.1 s

    after_give : (k n i : ℕ) (f l : Object) (early : Past) → turns_of lay k ((n, Give k i f l) ∷ early) ≡ turns_at ((turns_of lay k early).done + 1) (Some l) None
    after_give k n i f l early = if_here k k (turns_at ((turns_of lay k early).done + 1) (Some l) None) (turns_of lay k early) refl

    abbrev left_stamp : Item → ℕ
    left_stamp (Give k i f l) = value_stamp l
    left_stamp (Take k i) = 0
    left_stamp (Split m) = 0
    left_stamp (Join m) = 0
    left_stamp (Load c w) = 0
    left_stamp (Store c w) = 0

    -- of two turns of one object that were given back in a part of a past, the one that left the lesser stamp was given back before the other was taken
    pub given_before_taken : (early late e1 e2 e3 : Past) (k n m i j : ℕ) (f l f' l' : Object) → Lawful lay (late ++ early) → AllRaise value_stamp late
        → Stands late e1 (n, Give k i f l) → Stands late e2 (m, Give k j f' l') → Stands (late ++ early) e3 (m, Take k j) → value_stamp l < value_stamp l' → length (e1 ++ early) < length e3
    given_before_taken early late e1 e2 e3 k n m i j f l f' l' h r a b c lt = go (two late e1 e2 (n, Give k i f l) (m, Give k j f' l') a b)
      where
        a' : Stands (late ++ early) (e1 ++ early) (n, Give k i f l)
        a' = stands_more late early e1 (n, Give k i f l) a

        b' : Stands (late ++ early) (e2 ++ early) (m, Give k j f' l')
        b' = stands_more late early e2 (m, Give k j f' l') b

        numbers : (turns_of lay k (e1 ++ early)).done + 1 < j → length (e1 ++ early) < length e3
        numbers less = go3 (two (late ++ early) (e1 ++ early) e3 (n, Give k i f l) (m, Take k j) a' c)
          where
            go3 : Stands e3 (e1 ++ early) (n, Give k i f l) ⊎ (Stands (e1 ++ early) e3 (m, Take k j) ⊎ ((step_by n (Give k i f l) ≡ step_by m (Take k j)) × (e1 ++ early ≡ e3))) → length (e1 ++ early) < length e3
            go3 (inl s) = stands_len e3 (e1 ++ early) (n, Give k i f l) s
            go3 (inr (inl s)) = absurd (let t = (lawful_at (late ++ early) e3 (m, Take k j) h c).0.2 in let g = done_grows k e3 (e1 ++ early) (tail_suffix (e1 ++ early) e3 (m, Take k j) s) in omega arith)
            go3 (inr (inr s)) = absurd (let t = (lawful_at (late ++ early) e3 (m, Take k j) h c).0.2 in let g = ap (λ (z : Past). (turns_of lay k z).done) s.1 in omega arith)

        go : Stands e2 e1 (n, Give k i f l) ⊎ (Stands e1 e2 (m, Give k j f' l') ⊎ ((step_by n (Give k i f l) ≡ step_by m (Give k j f' l')) × (e1 ≡ e2))) → length (e1 ++ early) < length e3
        go (inl s) =
            let t = (lawful_at (late ++ early) (e2 ++ early) (m, Give k j f' l') h b').0.2 in
            let g = done_grows k ((n, Give k i f l) ∷ (e1 ++ early)) (e2 ++ early) (stands_suffix (e2 ++ early) (e1 ++ early) (n, Give k i f l) (stands_more e2 early e1 (n, Give k i f l) s)) in
            let q = ap (λ (z : Turns). z.done) (after_give k n i f l (e1 ++ early)) in
            numbers (omega arith)
        go (inr (inl s)) = absurd (
            let law = lawful_at (late ++ early) (e1 ++ early) (n, Give k i f l) h a' in
            let up = raise_at late e1 (n, Give k i f l) r a in
            let g = stamp_grows k ((m, Give k j f' l') ∷ e2) e1 early law.1 up.1 (stands_suffix e1 e2 (m, Give k j f' l') s) in
            let q = ap (λ (z : Turns). stamp_of z.value) (after_give k m j f' l' (e2 ++ early)) in
            let v = ap stamp_of law.0.3 in
            let u : value_stamp f ≤ value_stamp l = up.0 in
            omega arith)
        go (inr (inr s)) = absurd (let q : value_stamp l ≡ value_stamp l' = ap (λ (z : ℕ × Item). left_stamp z.1) s.0 in omega arith)

-- Lists that are cut in two.
use Rattle.std.proofs.Common.{◌≡◌, ◌⊎◌, Bool, true, false, List, [], ◌∷◌, ◌++◌, length, map, inl, inr, refl, sym, ap, ◌∙◌, arith}
use Rattle.std.specs.Prelude.{filter}
use Rattle.std.proofs.lemmas.Bool.{cases_Bool}
use Rattle.turn_orders.specs.Lists.{Each}
use Rattle.turn_orders.proofs.Members.{filter_here, filter_not}

module _ {X Y : Type 0} (f : X → Y) where
  -- a list whose values are cut at one of them
  pub record Cut (xs : List X) (fs : List Y) (b : Y) (cs : List Y) : Type 0 where
    pub first : List X
    pub it : X
    pub others : List X
    pub whole : xs ≡ first ++ it ∷ others
    pub firsts : map f first ≡ fs
    pub is : f it ≡ b
    pub rest : map f others ≡ cs

  more : (x : X) (xs : List X) (a : Y) (fs : List Y) (b : Y) (cs : List Y) → f x ≡ a → Cut xs fs b cs → Cut (x ∷ xs) (a ∷ fs) b cs
  more x xs a fs b cs head r = record {
    first = x ∷ r.first;
    it = r.it;
    others = r.others;
    whole = ap (λ (l : List X). x ∷ l) r.whole;
    firsts = ap (λ (l : List Y). f x ∷ l) r.firsts ∙ ap (λ (y : Y). y ∷ fs) head;
    is = r.is;
    rest = r.rest;
  }

  pub cut_at : (xs : List X) (fs : List Y) (b : Y) (cs : List Y) → map f xs ≡ fs ++ b ∷ cs → Cut xs fs b cs
  cut_at [] [] b cs e = absurd (let z = ap (λ (l : List Y). length l) e in omega (arith, z))
  cut_at [] (a ∷ fs) b cs e = absurd (let z = ap (λ (l : List Y). length l) e in omega (arith, z))
  cut_at (x ∷ xs) [] b cs e = record { first = []; it = x; others = xs; whole = refl; firsts = refl; is = cc; rest = cc }
  cut_at (x ∷ xs) (a ∷ fs) b cs e =
      let rest : map f xs ≡ fs ++ b ∷ cs = cc in
      let head : f x ≡ a = cc in
      more x xs a fs b cs head (cut_at xs fs b cs rest)

module _ {X : Type 0} where
  -- where the first of two lists has the element, or the second has
  pub record InFirst (xs ys front : List X) (x : X) (back : List X) : Type 0 where
    pub rest : List X
    pub whole : xs ≡ front ++ x ∷ rest
    pub back_is : back ≡ rest ++ ys

  pub record InSecond (xs ys front : List X) (x : X) (back : List X) : Type 0 where
    pub first : List X
    pub front_is : front ≡ xs ++ first
    pub whole : ys ≡ first ++ x ∷ back

  pub cut_two : (xs ys front : List X) (x : X) (back : List X) → xs ++ ys ≡ front ++ x ∷ back → InFirst xs ys front x back ⊎ InSecond xs ys front x back
  cut_two [] ys front x back e = inr (record { first = front; front_is = refl; whole = e })
  cut_two (z ∷ xs) ys [] x back e =
      let head : z ≡ x = cc in
      let rest : xs ++ ys ≡ back = cc in
      inl (record { rest = xs; whole = ap (λ (a : X). a ∷ xs) head; back_is = sym rest })
  cut_two (z ∷ xs) ys (v ∷ front) x back e =
      let head : z ≡ v = cc in
      let rest : xs ++ ys ≡ front ++ x ∷ back = cc in
      elim (cut_two xs ys front x back rest) [
        | inl r ↦
            inl (record {
              rest = r.rest;
              whole = ap (λ (l : List X). z ∷ l) r.whole ∙ ap (λ (a : X). a ∷ (front ++ x ∷ r.rest)) head;
              back_is = r.back_is;
            })
        | inr r ↦
            inr (record {
              first = r.first;
              front_is = ap (λ (a : X). a ∷ front) (sym head) ∙ ap (λ (l : List X). z ∷ l) r.front_is;
              whole = r.whole;
            })
      ]

  module _ (p : X → Bool) where
    -- the first element that passes
    pub record FirstOf (xs : List X) (y : X) (ys : List X) : Type 0 where
      pub mid : List X
      pub tail : List X
      pub whole : xs ≡ mid ++ y ∷ tail
      pub none : Each (λ (x : X). p x ≡ false) mid
      pub rest : filter p tail ≡ ys

    pub first_of_kept : (xs : List X) (y : X) (ys : List X) → filter p xs ≡ y ∷ ys → FirstOf xs y ys
    first_of_kept [] y ys e = absurd (let z = ap (λ (l : List X). length l) e in omega (arith, z))
    first_of_kept (x ∷ xs) y ys e = elim (cases_Bool (p x)) [
      | inl q ↦
          let kept : x ∷ filter p xs ≡ y ∷ ys = sym (filter_here p x xs q) ∙ e in
          let head : x ≡ y = cc in
          let rest : filter p xs ≡ ys = cc in
          record { mid = []; tail = xs; whole = ap (λ (z : X). z ∷ xs) head; none = tt; rest = rest }
      | inr q ↦
          let r = first_of_kept xs y ys (sym (filter_not p x xs q) ∙ e) in
          record { mid = x ∷ r.mid; tail = r.tail; whole = ap (λ (l : List X). x ∷ l) r.whole; none = (q, r.none); rest = r.rest }
    ]

    -- and the last one
    pub record LastPassed (xs : List X) (y : X) : Type 0 where
      pub front : List X
      pub mid : List X
      pub whole : xs ≡ front ++ y ∷ mid
      pub none : Each (λ (x : X). p x ≡ false) mid

    none_kept : (xs : List X) → filter p xs ≡ [] → Each (λ (x : X). p x ≡ false) xs
    none_kept [] e = tt
    none_kept (x ∷ xs) e = elim (cases_Bool (p x)) [
      | inl q ↦
          let kept : x ∷ filter p xs ≡ [] = sym (filter_here p x xs q) ∙ e in
          absurd (let z = ap (λ (l : List X). length l) kept in omega (arith, z))
      | inr q ↦ (q, none_kept xs (sym (filter_not p x xs q) ∙ e))
    ]

    pub last_of_kept : (xs ys : List X) (y : X) → filter p xs ≡ ys ++ y ∷ [] → LastPassed xs y
    last_of_kept [] [] y e = absurd (let z = ap (λ (l : List X). length l) e in omega (arith, z))
    last_of_kept [] (v ∷ ys) y e = absurd (let z = ap (λ (l : List X). length l) e in omega (arith, z))
    last_of_kept (x ∷ xs) ys y e = go ys e (cases_Bool (p x)) (λ zs q. last_of_kept xs zs y q)
      where
        go : (ys : List X) → filter p (x ∷ xs) ≡ ys ++ y ∷ [] → (p x ≡ true) ⊎ (p x ≡ false) →
            ((zs : List X) → filter p xs ≡ zs ++ y ∷ [] → LastPassed xs y) → LastPassed (x ∷ xs) y
        go ys e (inr q) rec =
            let r = rec ys (sym (filter_not p x xs q) ∙ e) in
            record { front = x ∷ r.front; mid = r.mid; whole = ap (λ (l : List X). x ∷ l) r.whole; none = r.none }
        go [] e (inl q) rec =
            let kept : x ∷ filter p xs ≡ y ∷ [] = sym (filter_here p x xs q) ∙ e in
            let head : x ≡ y = cc in
            let rest : filter p xs ≡ [] = cc in
            record { front = []; mid = xs; whole = ap (λ (z : X). z ∷ xs) head; none = none_kept xs rest }
        go (v ∷ ys) e (inl q) rec =
            let kept : x ∷ filter p xs ≡ v ∷ (ys ++ y ∷ []) = sym (filter_here p x xs q) ∙ e in
            let rest : filter p xs ≡ ys ++ y ∷ [] = cc in
            let r = rec ys rest in
            record { front = x ∷ r.front; mid = r.mid; whole = ap (λ (l : List X). x ∷ l) r.whole; none = r.none }

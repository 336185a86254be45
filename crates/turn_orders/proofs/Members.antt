-- Two lists in order with the same members are one list.
use Rattle.std.proofs.Common.{◌≡◌, Bool, true, false, cond, List, [], ◌∷◌, ◌++◌, ◌⊎◌, inl, inr, refl, sym, ap, subst, ◌∙◌}
use Rattle.std.proofs.lemmas.Bool.{cases_Bool}
use Rattle.std.specs.Prelude.{filter}
use Rattle.turn_orders.specs.Lists.{Each, In, InOrder, SameMembers}

module _ {X : Type 0} where
  pub at_member : (P : X → Type 0) (x : X) (xs : List X) → Each P xs → In x xs → P x
  at_member P x [] h i = absurd i
  at_member P x (y ∷ ys) h (inl e) = subst P (sym e) h.0
  at_member P x (y ∷ ys) h (inr i) = at_member P x ys h.1 i

  pub all_members : (P : X → Type 0) (xs : List X) → ((x : X) → In x xs → P x) → Each P xs
  all_members P [] f = tt
  all_members P (x ∷ xs) f = (f x (inl refl), all_members P xs (λ y i. f y (inr i)))

  filter_true : (p : X → Bool) (x : X) (xs : List X) → p x ≡ true → filter p (x ∷ xs) ≡ x ∷ filter p xs
  filter_true p x xs e = ap (λ (b : Bool). cond b (x ∷ filter p xs) (filter p xs)) e

  filter_false : (p : X → Bool) (x : X) (xs : List X) → p x ≡ false → filter p (x ∷ xs) ≡ filter p xs
  filter_false p x xs e = ap (λ (b : Bool). cond b (x ∷ filter p xs) (filter p xs)) e

  pub filter_here : (p : X → Bool) (x : X) (xs : List X) → p x ≡ true → filter p (x ∷ xs) ≡ x ∷ filter p xs
  filter_here = filter_true

  pub filter_not : (p : X → Bool) (x : X) (xs : List X) → p x ≡ false → filter p (x ∷ xs) ≡ filter p xs
  filter_not = filter_false

  filter_in_step : (p : X → Bool) (x y : X) (ys : List X) → (In x (filter p ys) → In x ys × (p x ≡ true)) → ((p y ≡ true) ⊎ (p y ≡ false)) → In x (filter p (y ∷ ys)) → In x (y ∷ ys) × (p x ≡ true)
  filter_in_step p x y ys rec (inl e) i = there (subst (λ (z : List X). In x z) (filter_true p y ys e) i)
    where
      there : In x (y ∷ filter p ys) → In x (y ∷ ys) × (p x ≡ true)
      there (inl q) = (inl q, ap p q ∙ e)
      there (inr j) = (inr (rec j).0, (rec j).1)
  filter_in_step p x y ys rec (inr e) i = let r = rec (subst (λ (z : List X). In x z) (filter_false p y ys e) i) in (inr r.0, r.1)

  -- what stands in a kept list
  pub filter_in : (p : X → Bool) (x : X) (xs : List X) → In x (filter p xs) → In x xs × (p x ≡ true)
  filter_in p x [] i = absurd i
  filter_in p x (y ∷ ys) i = filter_in_step p x y ys (filter_in p x ys) (cases_Bool (p y)) i

  pub in_filter : (p : X → Bool) (x : X) (xs : List X) → In x xs → p x ≡ true → In x (filter p xs)
  in_filter p x [] i e = absurd i
  in_filter p x (y ∷ ys) (inl q) e = subst (λ (z : List X). In x z) (sym (filter_true p y ys (ap p (sym q) ∙ e))) (inl q)
  in_filter p x (y ∷ ys) (inr j) e = elim (cases_Bool (p y)) [
    | inl f ↦ subst (λ (z : List X). In x z) (sym (filter_true p y ys f)) (inr (in_filter p x ys j e))
    | inr f ↦ subst (λ (z : List X). In x z) (sym (filter_false p y ys f)) (in_filter p x ys j e)
  ]

  pub filter_each : (P : X → Type 0) (p : X → Bool) (xs : List X) → Each P xs → Each P (filter p xs)
  filter_each P p xs h = all_members P (filter p xs) (λ x i. at_member P x xs h (filter_in p x xs i).0)

  pub filter_order : (R : X → X → Type 0) (p : X → Bool) (xs : List X) → InOrder R xs → InOrder R (filter p xs)
  filter_order R p [] h = tt
  filter_order R p (x ∷ xs) h = elim (cases_Bool (p x)) [
    | inl e ↦ subst (InOrder R) (sym (filter_true p x xs e)) (filter_each (R x) p xs h.0, filter_order R p xs h.1)
    | inr e ↦ subst (InOrder R) (sym (filter_false p x xs e)) (filter_order R p xs h.1)
  ]

  pub same_filter : (p : X → Bool) (xs ys : List X) → SameMembers xs ys → SameMembers (filter p xs) (filter p ys)
  same_filter p xs ys s x = (
    (λ i. let r = filter_in p x xs i in in_filter p x ys ((s x).0 r.0) r.1),
    (λ i. let r = filter_in p x ys i in in_filter p x xs ((s x).1 r.0) r.1),
  )

  -- R goes one way only
  pub same_list : (R : X → X → Type 0) → ((x y : X) → R x y → R y x → ⊥) → (xs ys : List X) → InOrder R xs → InOrder R ys → SameMembers xs ys → xs ≡ ys
  same_list R one [] [] h k s = refl
  same_list R one [] (y ∷ ys) h k s = absurd ((s y).1 (inl refl))
  same_list R one (x ∷ xs) [] h k s = absurd ((s x).0 (inl refl))
  same_list R one (x ∷ xs) (y ∷ ys) h k s = join heads (same_list R one xs ys h.1 k.1 tails)
    where
      first : In x (y ∷ ys) → In y (x ∷ xs) → x ≡ y
      first (inl e) j = e
      first (inr i) (inl e) = sym e
      first (inr i) (inr j) = absurd (one x y (at_member (R x) y xs h.0 j) (at_member (R y) x ys k.0 i))

      heads : x ≡ y
      heads = first ((s x).0 (inl refl)) ((s y).1 (inl refl))

      -- z is not the head
      drop_left : (z : X) → In z xs → In z (y ∷ ys) → In z ys
      drop_left z i (inr j) = j
      drop_left z i (inl e) = absurd (let q : z ≡ x = e ∙ sym heads in let r = subst (λ (w : X). R x w) q (at_member (R x) z xs h.0 i) in one x x r r)

      drop_right : (z : X) → In z ys → In z (x ∷ xs) → In z xs
      drop_right z i (inr j) = j
      drop_right z i (inl e) = absurd (let q : z ≡ y = e ∙ heads in let r = subst (λ (w : X). R y w) q (at_member (R y) z ys k.0 i) in one y y r r)

      tails : SameMembers xs ys
      tails z = ((λ i. drop_left z i ((s z).0 (inr i))), (λ i. drop_right z i ((s z).1 (inr i))))

      join : x ≡ y → xs ≡ ys → x ∷ xs ≡ y ∷ ys
      join p q = ap (λ (w : X). w ∷ xs) p ∙ ap (λ (w : List X). y ∷ w) q

  pub filter_append : (p : X → Bool) (xs ys : List X) → filter p (xs ++ ys) ≡ filter p xs ++ filter p ys
  filter_append p [] ys = refl
  filter_append p (x ∷ xs) ys = elim (cases_Bool (p x)) [
    | inl e ↦ filter_true p x (xs ++ ys) e ∙ (ap (λ (z : List X). x ∷ z) (filter_append p xs ys) ∙ ap (λ (z : List X). z ++ filter p ys) (sym (filter_true p x xs e)))
    | inr e ↦ filter_false p x (xs ++ ys) e ∙ (filter_append p xs ys ∙ ap (λ (z : List X). z ++ filter p ys) (sym (filter_false p x xs e)))
  ]

  pub each_append : (P : X → Type 0) (xs ys : List X) → Each P xs → Each P ys → Each P (xs ++ ys)
  each_append P [] ys h k = k
  each_append P (x ∷ xs) ys h k = (h.0, each_append P xs ys h.1 k)

  pub each_parts : (P : X → Type 0) (xs ys : List X) → Each P (xs ++ ys) → Each P xs × Each P ys
  each_parts P [] ys h = (tt, h)
  each_parts P (x ∷ xs) ys h = let r = each_parts P xs ys h.1 in ((h.0, r.0), r.1)

  pub order_append : (R : X → X → Type 0) (xs ys : List X) → InOrder R xs → InOrder R ys → ((x y : X) → In x xs → In y ys → R x y) → InOrder R (xs ++ ys)
  order_append R [] ys h k f = k
  order_append R (x ∷ xs) ys h k f = (
    each_append (R x) xs ys h.0 (all_members (R x) ys (λ y j. f x y (inl refl) j)),
    order_append R xs ys h.1 k (λ a b i j. f a b (inr i) j),
  )

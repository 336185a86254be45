-- Lists in order, and lists of lists.
use Rattle.std.proofs.Common.{◌≡◌, ◌<◌, ◌⊎◌, inl, inr, ℕ, zero, suc, List, [], ◌∷◌, ◌++◌, length, map, refl, sym, ap, subst, ◌∙◌, arith}
use Rattle.std.specs.Prelude.{AllPairs, flat_map, slice_index_or}
use Rattle.turn_orders.specs.Lists.{Each, In, InOrder}
use Rattle.turn_orders.proofs.Members.{at_member, all_members, each_parts}
use Rattle.woven_turns.proofs.Weaving.{in_parts, in_left, in_right}

module _ {X Y : Type 0} (f : X → List Y) where
  -- what stands in the lists of a list's elements
  pub in_flat : (y : Y) (xs : List X) → In y (flat_map f xs) → (x : X) × In x xs × In y (f x)
  in_flat y [] i = absurd i
  in_flat y (x ∷ xs) i = elim (in_parts y (f x) (flat_map f xs) i) [
    | inl j ↦ (x, inl refl, j)
    | inr j ↦ let r = in_flat y xs j in (r.0, inr r.1, r.2)
  ]

  pub flat_in : (x : X) (y : Y) (xs : List X) → In x xs → In y (f x) → In y (flat_map f xs)
  flat_in x y [] i j = absurd i
  flat_in x y (z ∷ xs) (inl e) j = in_left y (f z) (flat_map f xs) (subst (λ (v : X). In y (f v)) e j)
  flat_in x y (z ∷ xs) (inr i) j = in_right y (f z) (flat_map f xs) (flat_in x y xs i j)

module _ {X Y : Type 0} (f : X → Y) where
  pub map_in : (x : X) (xs : List X) → In x xs → In (f x) (map f xs)
  map_in x [] i = absurd i
  map_in x (y ∷ xs) (inl e) = inl (ap f e)
  map_in x (y ∷ xs) (inr i) = inr (map_in x xs i)

  pub in_map : (y : Y) (xs : List X) → In y (map f xs) → (x : X) × In x xs × (y ≡ f x)
  in_map y [] i = absurd i
  in_map y (x ∷ xs) (inl e) = (x, inl refl, e)
  in_map y (x ∷ xs) (inr i) = let r = in_map y xs i in (r.0, inr r.1, r.2)

  each_map : (P : Y → Type 0) (xs : List X) → Each P (map f xs) → Each (λ (x : X). P (f x)) xs
  each_map P [] h = tt
  each_map P (x ∷ xs) h = (h.0, each_map P xs h.1)

  -- the order of images
  pub order_map : (R : Y → Y → Type 0) (xs : List X) → InOrder R (map f xs) → InOrder (λ (a b : X). R (f a) (f b)) xs
  order_map R [] h = tt
  order_map R (x ∷ xs) h = (each_map (R (f x)) xs h.0, order_map R xs h.1)

module _ {X : Type 0} where
  -- of two elements of a list in order one stands before the other, or they are one
  pub order_cases : (R : X → X → Type 0) (x y : X) (xs : List X) → InOrder R xs → In x xs → In y xs → (x ≡ y) ⊎ (R x y ⊎ R y x)
  order_cases R x y [] h i j = absurd i
  order_cases R x y (z ∷ xs) h (inl e) (inl f) = inl (e ∙ sym f)
  order_cases R x y (z ∷ xs) h (inl e) (inr j) = inr (inl (subst (λ (v : X). R v y) (sym e) (at_member (R z) y xs h.0 j)))
  order_cases R x y (z ∷ xs) h (inr i) (inl f) = inr (inr (subst (λ (v : X). R v x) (sym f) (at_member (R z) x xs h.0 i)))
  order_cases R x y (z ∷ xs) h (inr i) (inr j) = order_cases R x y xs h.1 i j

  pub order_parts : (R : X → X → Type 0) (xs ys : List X) → InOrder R (xs ++ ys) → InOrder R xs × InOrder R ys × ((x y : X) → In x xs → In y ys → R x y)
  order_parts R [] ys h = (tt, h, λ x y i j. absurd i)
  order_parts R (z ∷ xs) ys h =
      let r = order_parts R xs ys h.1 in
      let e = each_parts (R z) xs ys h.0 in
      ((e.0, r.0), r.1, λ x y i j. across r.2 e.1 x y i j)
    where
      across : ((x y : X) → In x xs → In y ys → R x y) → Each (R z) ys → (x y : X) → In x (z ∷ xs) → In y ys → R x y
      across rest here x y (inl e) j = subst (λ (v : X). R v y) (sym e) (at_member (R z) y ys here j)
      across rest here x y (inr i) j = rest x y i j

  -- the order in which elements of the list stand may be told otherwise
  pub order_as : (R Q : X → X → Type 0) (xs : List X) → ((x y : X) → In x xs → In y xs → R x y → Q x y) → InOrder R xs → InOrder Q xs
  order_as R Q [] f h = tt
  order_as R Q (x ∷ xs) f h = (
    all_members (Q x) xs (λ y j. f x y (inl refl) (inr j) (at_member (R x) y xs h.0 j)),
    order_as R Q xs (λ y z i j. f y z (inr i) (inr j)) h.1,
  )

  -- in both ways at once
  pub order_both : (R Q : X → X → Type 0) (xs : List X) → InOrder R xs → InOrder Q xs → InOrder (λ (x y : X). R x y × Q x y) xs
  order_both R Q [] h k = tt
  order_both R Q (x ∷ xs) h k = (
    all_members (λ (y : X). R x y × Q x y) xs (λ y j. (at_member (R x) y xs h.0 j, at_member (Q x) y xs k.0 j)),
    order_both R Q xs h.1 k.1,
  )

  each_at : (P : X → Type 0) (xs : List X) (d : X) → ((j : ℕ) → j < length xs → P (slice_index_or xs j d)) → Each P xs
  each_at P [] d f = tt
  each_at P (x ∷ xs) d f = (f 0 (omega arith), each_at P xs d (λ j l. f (suc j) (omega arith)))

  pub in_order : (R : X → X → Type 0) (xs : List X) → AllPairs R xs → InOrder R xs
  in_order R [] a = tt
  in_order R (x ∷ xs) a = (
    each_at (R x) xs x (λ j l. a 0 (suc j) x (omega arith) (omega arith)),
    in_order R xs (λ i j d lt l. a (suc i) (suc j) d (omega arith) (omega arith)),
  )

  -- ---- by position

  pub each_index : (P : X → Type 0) (d : X) (xs : List X) (i : ℕ) → Each P xs → P d → P (slice_index_or xs i d)
  each_index P d [] i h p = p
  each_index P d (x ∷ xs) zero h p = h.0
  each_index P d (x ∷ xs) (suc i) h p = each_index P d xs i h.1 p

  pub order_index : (R : X → X → Type 0) (d : X) (xs : List X) (i j : ℕ) → i < j → InOrder R xs → ((x : X) → R x d) → R (slice_index_or xs i d)
      (slice_index_or xs j d)
  order_index R d [] i j l h p = p d
  order_index R d (x ∷ xs) zero zero l h p = absurd (omega arith)
  order_index R d (x ∷ xs) zero (suc j) l h p = each_index (R x) d xs j h.0 (p x)
  order_index R d (x ∷ xs) (suc i) zero l h p = absurd (omega arith)
  order_index R d (x ∷ xs) (suc i) (suc j) l h p = order_index R d xs i j (omega arith) h.1 p

  pub in_index : (d x : X) (xs : List X) → In x xs → (i : ℕ) × (slice_index_or xs i d ≡ x)
  in_index d x [] i = absurd i
  in_index d x (y ∷ xs) (inl e) = (0, sym e)
  in_index d x (y ∷ xs) (inr i) = let r = in_index d x xs i in (suc r.0, r.1)

  pub index_in : (d : X) (xs : List X) (i : ℕ) → In (slice_index_or xs i d) xs ⊎ (slice_index_or xs i d ≡ d)
  index_in d [] i = inr refl
  index_in d (x ∷ xs) zero = inl (inl refl)
  index_in d (x ∷ xs) (suc i) = elim (index_in d xs i) [ inl j ↦ inl (inr j) | inr e ↦ inr e ]

-- an image by position
pub map_index : {X Y : Type 0} (f : X → Y) (d : X) (xs : List X) (i : ℕ) → slice_index_or (map f xs) i (f d) ≡ f (slice_index_or xs i d)
map_index f d [] i = refl
map_index f d (x ∷ xs) zero = refl
map_index f d (x ∷ xs) (suc i) = map_index f d xs i

-- ---- a list cut as its image is

pub record Parted {X Y : Type 0} (f : X → Y) (zs : List X) (xs ys : List Y) : Type 0 where
  pub front : List X
  pub back : List X
  pub whole : zs ≡ front ++ back
  pub fronts : map f front ≡ xs
  pub backs : map f back ≡ ys

pub parted : {X Y : Type 0} (f : X → Y) (zs : List X) (xs ys : List Y) → map f zs ≡ xs ++ ys → Parted f zs xs ys
parted f zs [] ys e = record { front = []; back = zs; whole = refl; fronts = refl; backs = e }
parted f [] (x ∷ xs) ys e = absurd (cc)
parted {X} {Y} f (z ∷ zs) (x ∷ xs) ys e = more (parted f zs xs ys tail)
  where
    tail : map f zs ≡ xs ++ ys
    tail = cc

    head : f z ≡ x
    head = cc

    more : Parted f zs xs ys → Parted f (z ∷ zs) (x ∷ xs) ys
    more r = record {
      front = z ∷ r.front;
      back = r.back;
      whole = ap (λ (l : List X). z ∷ l) r.whole;
      fronts = ap (λ (y : Y). y ∷ map f r.front) head ∙ ap (λ (l : List Y). x ∷ l) r.fronts;
      backs = r.backs;
    }

-- Accesses that are sorted by their entries' stamps and threads stand in the order of the sorted entries.
use Rattle.std.proofs.Common.{◌≡◌, ◌<◌, ◌⊎◌, inl, inr, ℕ, Bool, true, false, cond, List, [], ◌∷◌, ◌++◌, length, refl, sym, ap, ap₂, subst, ◌∙◌, arith, eq-eqb, ◌==◌}
use Rattle.std.specs.Prelude.{◌&&◌, map, filter, IsPermutation}
use Rattle.std.specs.List.{count_by}
use Rattle.std.proofs.lemmas.Bool.{cases_Bool, and_parts, and_from, eqb-true}
use Rattle.std.proofs.lemmas.List.{map-append}
use Rattle.std.proofs.lemmas.List.Sorted.{sum_by-IsPermutation}
use Rattle.std.proofs.lemmas.List.Sums.{length-filter}
use Rattle.run_record.specs.declared.entry.Entry.{Entry}
use Rattle.run_record.specs.Order.{Precedes}
use Rattle.report_laws.specs.Awaited.{Awaited}
use Rattle.turn_orders.specs.Lists.{Each, In, InOrder}
use Rattle.turn_orders.proofs.Members.{at_member, all_members, filter_here, filter_not, filter_in, filter_append, filter_order, same_filter, each_append, order_append}
use Rattle.turn_orders.proofs.Permuted.{same_members}
use Rattle.part_races.specs.Rounds.{Tagged, entries_tagged, all_awaited}
use Rattle.part_races.specs.Sorting.{Keyed, keyed_of, all_keyed, awaited_in, IsNotLater, has_key, AreSorted}
use Rattle.part_races.proofs.Lists.{same_first, same_rest}

-- ---- keys

key_is : (n t a b : ℕ) → (a == n) && (b == t) ≡ true → (a ≡ n) × (b ≡ t)
key_is n t a b q = let r = and_parts (a == n) (b == t) q in (eqb-true a n r.0, eqb-true b t r.1)

is_key : (n t a b : ℕ) → a ≡ n → b ≡ t → (a == n) && (b == t) ≡ true
is_key n t a b p q = and_from (a == n) (b == t) (eq-eqb a n p) (eq-eqb b t q)

own_key : (x : Keyed) → has_key x.stamp x.thread x ≡ true
own_key x = is_key x.stamp x.thread x.stamp x.thread refl refl

-- ---- sorted lists with the same elements of each key

abbrev SameKeys : List Keyed → List Keyed → Type 0
SameKeys xs ys = (n t : ℕ) → filter (has_key n t) xs ≡ filter (has_key n t) ys

no_first : (y : Keyed) (ys : List Keyed) → [] ≡ filter (has_key y.stamp y.thread) (y ∷ ys) → ⊥
no_first y ys e =
    let q : [] ≡ y ∷ filter (has_key y.stamp y.thread) ys = e ∙ filter_here (has_key y.stamp y.thread) y ys (own_key y) in
    absurd (cc)

rest_keys : (x y : Keyed) (xs ys : List Keyed) → x ≡ y → SameKeys (x ∷ xs) (y ∷ ys) → SameKeys xs ys
rest_keys x y xs ys e f n t = elim (cases_Bool (has_key n t x)) [
  | inl its ↦ same_rest x y (filter (has_key n t) xs) (filter (has_key n t) ys)
      (sym (filter_here (has_key n t) x xs its) ∙ (f n t ∙ filter_here (has_key n t) y ys (subst (λ (z : Keyed). has_key n t z ≡ true) e its)))
  | inr other ↦ sym (filter_not (has_key n t) x xs other)
      ∙ (f n t ∙ filter_not (has_key n t) y ys (subst (λ (z : Keyed). has_key n t z ≡ false) e other))
]

-- neither comes after the other
met : (x y : Keyed) → IsNotLater x y → IsNotLater y x → (y.stamp ≡ x.stamp) × (y.thread ≡ x.thread)
met x y (inl a) (inl b) = absurd (omega (arith, a, b))
met x y (inl a) (inr b) = let q = b.0 in absurd (omega (arith, a, q))
met x y (inr a) (inl b) = let q = a.0 in absurd (omega (arith, b, q))
met x y (inr a) (inr b) = let p = a.1 in let q = b.1 in (b.0, omega (arith, p, q))

-- the first of one list stands in the other's rest, where that begins with another key
in_rest : (x y : Keyed) (xs ys : List Keyed) → SameKeys (x ∷ xs) (y ∷ ys) → has_key x.stamp x.thread y ≡ false → In x ys
in_rest x y xs ys f other =
    let k = has_key x.stamp x.thread in
    (filter_in k x ys (subst (In x) (filter_not k y ys other) (subst (In x) (f x.stamp x.thread)
    (subst (In x) (sym (filter_here k x xs (own_key x))) (inl refl))))).0

apart : (x y : Keyed) (xs ys : List Keyed) → InOrder IsNotLater (x ∷ xs) → InOrder IsNotLater (y ∷ ys) → SameKeys (x ∷ xs) (y ∷ ys) →
    has_key x.stamp x.thread y ≡ false → ⊥
apart x y xs ys o p f other = elim (cases_Bool (has_key y.stamp y.thread x)) [
  | inl same ↦ let q = key_is y.stamp y.thread x.stamp x.thread same in differ (sym q.0, sym q.1)
  | inr another ↦ differ (met x y (at_member (IsNotLater x) y xs o.0 (in_rest y x ys xs (λ n t. sym (f n t)) another))
      (at_member (IsNotLater y) x ys p.0 (in_rest x y xs ys f other)))
]
  where
    differ : (y.stamp ≡ x.stamp) × (y.thread ≡ x.thread) → ⊥
    differ q = let z : true ≡ false = sym (is_key x.stamp x.thread y.stamp y.thread q.0 q.1) ∙ other in absurd (cc)

pub same_sorted : (xs ys : List Keyed) → InOrder IsNotLater xs → InOrder IsNotLater ys → SameKeys xs ys → xs ≡ ys
same_sorted [] [] o p f = refl
same_sorted [] (y ∷ ys) o p f = absurd (no_first y ys (f y.stamp y.thread))
same_sorted (x ∷ xs) [] o p f = absurd (no_first x xs (sym (f x.stamp x.thread)))
same_sorted (x ∷ xs) (y ∷ ys) o p f = elim (cases_Bool (has_key x.stamp x.thread y)) [
  | inl its ↦
      let k = has_key x.stamp x.thread in
      let first : x ≡ y = same_first x y (filter k xs) (filter k ys)
      (sym (filter_here k x xs (own_key x)) ∙ (f x.stamp x.thread ∙ filter_here k y ys its)) in
      ap₂ (λ (z : Keyed) (zs : List Keyed). z ∷ zs) first (same_sorted xs ys o.1 p.1 (rest_keys x y xs ys first f))
  | inr other ↦ absurd (apart x y xs ys o p f other)
]

-- ---- the accesses of sorted entries

abbrev with_key : Entry → List Awaited → List Keyed
with_key e ws = map (λ (a : Awaited). record { stamp = e.stamp; thread = e.tid; awaited = a }) ws

own_each : (e : Entry) (a : Awaited) (ws : List Awaited) → Each (IsNotLater (record { stamp = e.stamp; thread = e.tid; awaited = a })) (with_key e ws)
own_each e a [] = tt
own_each e a (b ∷ ws) = (inr (refl, omega arith), own_each e a ws)

own_order : (e : Entry) (ws : List Awaited) → InOrder IsNotLater (with_key e ws)
own_order e [] = tt
own_order e (a ∷ ws) = (own_each e a ws, own_order e ws)

own_keys : (e : Entry) (ws : List Awaited) → Each (λ (x : Keyed). (x.stamp ≡ e.stamp) × (x.thread ≡ e.tid)) (with_key e ws)
own_keys e [] = tt
own_keys e (a ∷ ws) = ((refl, refl), own_keys e ws)

abbrev IsAfter : Entry → Keyed → Type 0
IsAfter e x = (e.stamp < x.stamp) ⊎ ((e.stamp ≡ x.stamp) × (e.tid < x.thread))

after_each : (d e : Entry) (ws : List Awaited) → Precedes d e → Each (IsAfter d) (with_key e ws)
after_each d e [] p = tt
after_each d e (a ∷ ws) p = (p, after_each d e ws p)

all_after : (d : Entry) (xs : List Tagged) → Each (Precedes d) (entries_tagged xs) → Each (IsAfter d) (all_keyed xs)
all_after d [] h = tt
all_after d (x ∷ xs) h = each_append (IsAfter d) (keyed_of x) (all_keyed xs) (after_each d x.entry x.awaited h.0) (all_after d xs h.1)

not_later : (e : Entry) (x y : Keyed) → (x.stamp ≡ e.stamp) × (x.thread ≡ e.tid) → IsAfter e y → IsNotLater x y
not_later e x y k (inl a) = let p = k.0 in inl (omega (arith, a, p))
not_later e x y k (inr a) = let p = k.1 in let q = a.1 in inr (k.0 ∙ a.0, omega (arith, p, q))

pub keyed_order : (xs : List Tagged) → InOrder Precedes (entries_tagged xs) → InOrder IsNotLater (all_keyed xs)
keyed_order [] o = tt
keyed_order (x ∷ xs) o =
    order_append IsNotLater (keyed_of x) (all_keyed xs) (own_order x.entry x.awaited) (keyed_order xs o.1)
    (λ a b i j. not_later x.entry a b
    (at_member (λ (y : Keyed). (y.stamp ≡ x.entry.stamp) × (y.thread ≡ x.entry.tid)) a (keyed_of x) (own_keys x.entry x.awaited) i)
    (at_member (IsAfter x.entry) b (all_keyed xs) (all_after x.entry xs o.0) j))

pub keyed_awaited : (xs : List Tagged) → awaited_in (all_keyed xs) ≡ all_awaited xs
keyed_awaited [] = refl
keyed_awaited (x ∷ xs) = map-append (λ (y : Keyed). y.awaited) (keyed_of x) (all_keyed xs)
    ∙ ap₂ (λ (ws bs : List Awaited). ws ++ bs) (own x.awaited) (keyed_awaited xs)
  where
    own : (ws : List Awaited) → awaited_in (with_key x.entry ws) ≡ ws
    own [] = refl
    own (a ∷ ws) = ap (λ (bs : List Awaited). a ∷ bs) (own ws)

-- ---- those of one key

abbrev tag_key : ℕ → ℕ → Tagged → Bool
tag_key n t x = (x.entry.stamp == n) && (x.entry.tid == t)

all_pass : (n t : ℕ) (e : Entry) (ws : List Awaited) → (e.stamp == n) && (e.tid == t) ≡ true → filter (has_key n t) (with_key e ws) ≡ with_key e ws
all_pass n t e [] q = refl
all_pass n t e (a ∷ ws) q =
    let x : Keyed = record { stamp = e.stamp; thread = e.tid; awaited = a } in
    filter_here (has_key n t) x (with_key e ws) q ∙ ap (λ (ys : List Keyed). x ∷ ys) (all_pass n t e ws q)

none_pass : (n t : ℕ) (e : Entry) (ws : List Awaited) → (e.stamp == n) && (e.tid == t) ≡ false → filter (has_key n t) (with_key e ws) ≡ []
none_pass n t e [] q = refl
none_pass n t e (a ∷ ws) q =
    filter_not (has_key n t) (record { stamp = e.stamp; thread = e.tid; awaited = a }) (with_key e ws) q ∙ none_pass n t e ws q

keyed_filter : (n t : ℕ) (xs : List Tagged) → filter (has_key n t) (all_keyed xs) ≡ all_keyed (filter (tag_key n t) xs)
keyed_filter n t [] = refl
keyed_filter n t (x ∷ xs) = filter_append (has_key n t) (keyed_of x) (all_keyed xs) ∙ elim (cases_Bool (tag_key n t x)) [
  | inl its ↦ ap₂ (λ (ws bs : List Keyed). ws ++ bs) (all_pass n t x.entry x.awaited its) (keyed_filter n t xs)
      ∙ ap all_keyed (sym (filter_here (tag_key n t) x xs its))
  | inr other ↦ ap₂ (λ (ws bs : List Keyed). ws ++ bs) (none_pass n t x.entry x.awaited other) (keyed_filter n t xs)
      ∙ ap all_keyed (sym (filter_not (tag_key n t) x xs other))
]

-- entries stand before one another, and so does what is told of them
tagged_order : (xs : List Tagged) → InOrder Precedes (entries_tagged xs) → InOrder (λ (x y : Tagged). Precedes x.entry y.entry) xs
tagged_order [] o = tt
tagged_order (x ∷ xs) o = (each xs o.0, tagged_order xs o.1)
  where
    each : (ys : List Tagged) → Each (Precedes x.entry) (entries_tagged ys) → Each (λ (y : Tagged). Precedes x.entry y.entry) ys
    each [] h = tt
    each (y ∷ ys) h = (h.0, each ys h.1)

-- so there is at most one of a key
same_key : (n t : ℕ) (x y : Tagged) → tag_key n t x ≡ true → tag_key n t y ≡ true → Precedes x.entry y.entry → ⊥
same_key n t x y p q (inl l) =
    let a = (key_is n t x.entry.stamp x.entry.tid p).0 in let b = (key_is n t y.entry.stamp y.entry.tid q).0 in omega (arith, a, b, l)
same_key n t x y p q (inr l) =
    let a = (key_is n t x.entry.stamp x.entry.tid p).1 in let b = (key_is n t y.entry.stamp y.entry.tid q).1 in let c = l.1 in omega (arith, a, b, c)

at_most_one : (n t : ℕ) (xs ys : List Tagged) → InOrder (λ (x y : Tagged). Precedes x.entry y.entry) xs → Each (λ (x : Tagged). tag_key n t x ≡ true) xs →
    length ys ≡ length xs → ((y : Tagged) → In y ys → In y xs) → xs ≡ ys
at_most_one n t [] [] o k l i = refl
at_most_one n t [] (y ∷ ys) o k l i = absurd (i y (inl refl))
at_most_one n t (x ∷ []) [] o k l i = absurd (cc)
at_most_one n t (x ∷ []) (y ∷ []) o k l i = elim (i y (inl refl)) [
  | inl e ↦ ap (λ (z : Tagged). z ∷ []) (sym e)
  | inr z ↦ absurd z
]
at_most_one n t (x ∷ []) (y ∷ (z ∷ ys)) o k l i = absurd (cc)
at_most_one n t (x ∷ (y ∷ xs)) ys o k l i = absurd (same_key n t x y k.0 k.1.0 o.0.0)

-- entries in another order that are sorted, and those of one key
pub moved_filter : (n t : ℕ) (xs ys : List Tagged) → IsPermutation xs ys → InOrder Precedes (entries_tagged ys) →
    filter (tag_key n t) ys ≡ filter (tag_key n t) xs
moved_filter n t xs ys p o =
    let k = tag_key n t in
    let same = same_filter k xs ys (same_members xs ys p) in
    let count : count_by k ys ≡ count_by k xs = sum_by-IsPermutation (λ (x : Tagged). cond (k x) 1 0) xs ys p in
    let long : length (filter k xs) ≡ length (filter k ys) = length-filter k xs ∙ (sym count ∙ sym (length-filter k ys)) in
    at_most_one n t (filter k ys) (filter k xs) (filter_order (λ (x y : Tagged). Precedes x.entry y.entry) k ys (tagged_order ys o))
    (all_members (λ (x : Tagged). k x ≡ true) (filter k ys) (λ x i. (filter_in k x ys i).1)) long (λ y i. (same y).0 i)

-- What is sorted by stamp and thread is what the sorted entries have.
pub sorted_is : (xs ys : List Tagged) (keys : List Keyed) → IsPermutation xs ys → InOrder Precedes (entries_tagged ys) → AreSorted (all_keyed xs) keys →
    awaited_in keys ≡ all_awaited ys
sorted_is xs ys keys p o s =
    ap awaited_in (same_sorted keys (all_keyed ys) s.order (keyed_order ys o)
    (λ n t. s.stable n t ∙ (keyed_filter n t xs ∙ (ap all_keyed (sym (moved_filter n t xs ys p o)) ∙ sym (keyed_filter n t ys)))))
    ∙ keyed_awaited ys

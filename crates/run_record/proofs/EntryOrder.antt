-- Why a sort by stamp and thread orders entries that are distinct.
use Rattle.std.proofs.Common.{◌≡◌, ◌<◌, ◌≤◌, ℕ, Bool, false, ◌==◌, ◌&&◌, Ordering, List, [], ◌∷◌, ◌++◌, append-nil, sym, ◌∙◌, length, ◌⊎◌, inl, inr, arith}
use Rattle.std.specs.Prelude.{IsPermutation, AllPairs}
use Rattle.std.specs.Ordering.{nat_cmp, is_lt, ordering_then}
use Rattle.std.specs.List.Sorted.{IsSortedByKey}
use Rattle.std.proofs.lemmas.Bool.{cases_order}
use Rattle.std.proofs.lemmas.Bool.Decides.{nat_tests}
use Rattle.std.proofs.lemmas.Cmp.{nat_cmp_total, on_total, then_total}
use Rattle.std.proofs.lemmas.List.Sorted.{ranks_by, sorted_far}
use Rattle.std.proofs.lemmas.Map.Keys.{IsDistinct-from_apart, apart_from_distinct, IsDistinct-IsPermutation}
use Rattle.run_record.specs.declared.entry.Entry.{Entry}
use Rattle.run_record.specs.Order.{AreOrdered, AreDistinct, entries_in}

-- the same stamp and the same thread
abbrev same_place : Entry → Entry → Bool
same_place d e = (d.stamp == e.stamp) && (d.tid == e.tid)

-- how the entries' keys compare
abbrev compare_keys : (ℕ × ℕ) → (ℕ × ℕ) → Ordering
compare_keys x y = ordering_then (nat_cmp x.0 y.0) (nat_cmp x.1 y.1)

differ : (s t u v : ℕ) → (((s ≡ t) × (u ≡ v)) → ⊥) → ((s == t) && (u == v)) ≡ false
differ s t u v h = grind (arith, nat_tests)

flips : (s t u v : ℕ) → ((s == t) && (u == v)) ≡ ((t == s) && (v == u))
flips s t u v = grind (arith, nat_tests)

-- what a sort and distinctness tell of an earlier and a later key
precedes : (s t u v : ℕ) → ((s == t) && (u == v)) ≡ false → is_lt (ordering_then (nat_cmp t s) (nat_cmp v u)) ≡ false → (s < t) ⊎ ((s ≡ t) × (u < v))
precedes s t u v apart sorted =
    elim (cases_order s t) [
      | inl e ↦ elim (cases_order u v) [
        | inl f ↦ absurd (grind (arith, nat_tests))
        | inr h ↦ elim h [ inl l ↦ inr (e, l) | inr g ↦ absurd (grind (arith, nat_tests)) ]
      ]
      | inr h ↦ elim h [ inl l ↦ inl l | inr g ↦ absurd (grind (arith, nat_tests)) ]
    ]

pub AreOrdered-from_sort : (logged sorted : List Entry) → AreDistinct logged → IsPermutation logged sorted →
    IsSortedByKey (λ (e : Entry). (e.stamp, e.tid)) compare_keys sorted → AreOrdered sorted
AreOrdered-from_sort logged sorted distinct moved ascends =
    let apart = IsDistinct-from_apart same_place logged (λ i j d p q. differ _ _ _ _ (distinct i j d p q)) in
    let still = IsDistinct-IsPermutation same_place (λ x y. flips x.stamp y.stamp x.tid y.tid) logged sorted moved apart in
    let order = ranks_by (then_total (on_total (λ (x : ℕ × ℕ). x.0) nat_cmp_total) (on_total (λ (x : ℕ × ℕ). x.1) nat_cmp_total))
    (λ (e : Entry). (e.stamp, e.tid)) in
    λ i j d p q. precedes _ _ _ _ (apart_from_distinct same_place sorted i j d still p q) (sorted_far _ order sorted ascends i j d (omega arith) q)

before_or_same : (s t u v : ℕ) → ((s == t) && (u == v)) ≡ false → (s < t) ⊎ ((s ≡ t) × (u ≤ v)) → (s < t) ⊎ ((s ≡ t) × (u < v))
before_or_same s t u v apart (inl l) = inl l
before_or_same s t u v apart (inr e) = inr (e.0, let same = e.0 in let upto = e.1 in grind (arith, nat_tests))

-- entries none of which is after a later one are ordered, where they are distinct
pub AreOrdered-from_upto : (logged sorted : List Entry) → AreDistinct logged → IsPermutation logged sorted →
    AllPairs (λ d e. (d.stamp < e.stamp) ⊎ ((d.stamp ≡ e.stamp) × (d.tid ≤ e.tid))) sorted → AreOrdered sorted
AreOrdered-from_upto logged sorted distinct moved upto =
    let apart = IsDistinct-from_apart same_place logged (λ i j d p q. differ _ _ _ _ (distinct i j d p q)) in
    let still = IsDistinct-IsPermutation same_place (λ x y. flips x.stamp y.stamp x.tid y.tid) logged sorted moved apart in
    λ i j d p q. before_or_same _ _ _ _ (apart_from_distinct same_place sorted i j d still p q) (upto i j d p q)

-- where nothing is left, what is joined is all
pub all_joined : (done all : List Entry) (left : List (List Entry)) → done ++ entries_in left ≡ all → length left ≡ 0 → done ≡ all
all_joined done all [] joined none = sym (append-nil done) ∙ joined
all_joined done all (x ∷ xs) joined none = absurd (omega arith)

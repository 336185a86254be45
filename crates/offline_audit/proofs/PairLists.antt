-- Lists of pairs that rise: where a pair stands among them, and one more.
use Rattle.std.proofs.Common.{◌≡◌, ℕ, zero, suc, ◌∷◌, ◌↔◌, ◌+◌, ◌-◌, ◌<◌, ◌≤◌, ◌==◌, ◌&&◌, ◌⊎◌, true, false, List, length, get_or, insert, sym, ap, ◌∙◌, subst, inl, inr, arith, Contains, eq-eqb}
use Rattle.std.specs.Prelude.{slice_index_or}
use Rattle.std.specs.List.Sorted.{IsPartitionedBy, IsPartitionPoint}
use Rattle.std.proofs.lemmas.Bool.{cases_eq, cases_lt, and_from}
use Rattle.std.proofs.lemmas.Bool.Decides.{nat_tests}
use Rattle.std.proofs.lemmas.List.{get_or_default}
use Rattle.std.proofs.lemmas.List.Sorted.{IsPermutation-insert, IsPermutation-sym, Contains-permutation}
use Rattle.std.proofs.lemmas.List.Edits.{length-insert, get_or-insert_below, get_or-insert_at, get_or-insert_above}
use Rattle.report_text.specs.declared.pair.Pair.{Pair}
use Rattle.offline_audit.specs.Pairs.{IsLower, is_lower, AreRisingPairs, IsPlaceAmong}

pub lower-true : (a b : Pair) → is_lower a b ≡ true → IsLower a b
lower-true a b e = grind (arith, nat_tests)

pub true-lower : (a b : Pair) → IsLower a b → is_lower a b ≡ true
true-lower a b l = grind (arith, nat_tests)

lower_trans : (a b c : Pair) → IsLower a b → IsLower b c → IsLower a c
lower_trans a b c l m = grind arith

lower_itself : (a : Pair) → IsLower a a → ⊥
lower_itself a l = grind arith

abbrev of_two : ℕ → ℕ → Pair
of_two x y = record { low = x; high = y }

abbrev pub no_pair : Pair
no_pair = record { low = 0; high = 0 }

pub equal_pair : (a b : Pair) → a ≡ b → ((a.low == b.low) && (a.high == b.high)) ≡ true
equal_pair a b e = and_from (a.low == b.low) (a.high == b.high) (eq-eqb a.low b.low (ap (λ (x : Pair). x.low) e)) (eq-eqb a.high b.high (ap (λ (x : Pair). x.high) e))

same_pair : (a b : Pair) → a.low ≡ b.low → a.high ≡ b.high → a ≡ b
same_pair a b l h = ap (λ (x : ℕ). of_two x a.high) l ∙ ap (λ (y : ℕ). of_two b.low y) h

lower_cases : (a b : Pair) → IsLower a b ⊎ ((a ≡ b) ⊎ IsLower b a)
lower_cases a b = elim (cases_eq a.low b.low) [
  | inl e ↦ elim (cases_eq a.high b.high) [
    | inl f ↦ inr (inl (same_pair a b e f))
    | inr d ↦ elim (cases_lt a.high b.high) [ inl l ↦ inl (inr (e, l)) | inr l ↦ inr (inr (inr (sym e, omega arith))) ]
  ]
  | inr d ↦ elim (cases_lt a.low b.low) [ inl l ↦ inl (inl l) | inr l ↦ inr (inr (inl (omega arith))) ]
]

-- the pairs before a place are those that are lower
pub parted : (pairs : List Pair) (pair : Pair) → AreRisingPairs pairs → IsPartitionedBy (λ (x : Pair). is_lower x pair) pairs
parted pairs pair rising = λ i j d l m e. elim (cases_eq i j) [
  | inl s ↦ rw s e
  | inr s ↦
      let below = rising i j d (omega arith) m in
      true-lower _ _ (lower_trans (slice_index_or pairs i d) (slice_index_or pairs j d) pair below (lower-true (slice_index_or pairs j d) pair e))
]

no_lower : (a b : Pair) → is_lower a b ≡ false → IsLower a b → ⊥
no_lower a b e l = let t = true-lower a b l in cc

pub place_from : (pairs : List Pair) (pair : Pair) (at : ℕ) → at ≤ length pairs →
    IsPartitionPoint (λ (x : Pair). is_lower x pair ≡ true) (λ (x : Pair). is_lower x pair ≡ false) pairs at → IsPlaceAmong pairs pair at
place_from pairs pair at within (low, high) = record {
  within = within;
  before = λ k d l. lower-true (slice_index_or pairs k d) pair (low k d (omega arith) l);
  after = λ k d l m h. no_lower (slice_index_or pairs k d) pair (high k d l m) h;
}

-- a pair that is among them is at its place
pub at_place : (pairs : List Pair) (pair : Pair) (at : ℕ) → AreRisingPairs pairs → IsPlaceAmong pairs pair at → Contains pairs pair →
    (at < length pairs) × (slice_index_or pairs at pair ≡ pair)
at_place pairs pair at rising place (k, l, is) = elim (cases_lt k at) [
  | inl b ↦ absurd (lower_itself pair (subst (λ (x : Pair). IsLower x pair) is (place.before k pair b)))
  | inr b ↦ elim (cases_eq k at) [
    | inl s ↦ (omega arith, ap (λ (i : ℕ). slice_index_or pairs i pair) (sym s) ∙ is)
    | inr d ↦
        let m : at < length pairs = omega arith in
        absurd (place.after at pair (omega arith) m (subst (λ (x : Pair). IsLower (slice_index_or pairs at pair) x) is (rising at k pair (omega arith) l)))
  ]
]

-- a pair that isn't among them is lower than those after its place
above : (pairs : List Pair) (pair : Pair) (at : ℕ) → IsPlaceAmong pairs pair at → (Contains pairs pair → ⊥) →
    (k : ℕ) (d : Pair) → at ≤ k → k < length pairs → IsLower pair (slice_index_or pairs k d)
above pairs pair at place new k d l m = elim (lower_cases pair (slice_index_or pairs k d)) [
  | inl b ↦ b
  | inr (inl e) ↦ absurd (new (k, m, get_or_default pairs k pair d m ∙ sym e))
  | inr (inr b) ↦ absurd (place.after k d l m b)
]

pub inserted : (pairs : List Pair) (at : ℕ) (pair x : Pair) → Contains (insert pairs at pair) x ↔ (Contains pairs x ⊎ (x ≡ pair))
inserted pairs at pair x =
    let moved = IsPermutation-insert pairs at pair in
    let whole = IsPermutation-sym (pair ∷ pairs) (insert pairs at pair) moved in (
      λ c. head_or (Contains-permutation (insert pairs at pair) (pair ∷ pairs) x whole c),
      λ c. Contains-permutation (pair ∷ pairs) (insert pairs at pair) x moved (elim c [ inl (k, l, e) ↦ (suc k, omega arith, e) | inr e ↦ (0, omega arith, sym e) ]),
    )
  where
    head_or : Contains (pair ∷ pairs) x → Contains pairs x ⊎ (x ≡ pair)
    head_or (zero, l, e) = inr (sym e)
    head_or (suc k, l, e) = inl (k, omega arith, e)

module _ (pairs : List Pair) (pair : Pair) (at : ℕ) (rising : AreRisingPairs pairs) (place : IsPlaceAmong pairs pair at) (new : Contains pairs pair → ⊥) where
  first_below : (i j : ℕ) (d : Pair) → i < at → i < j → j < length pairs + 1 → IsLower (slice_index_or pairs i d) (get_or (insert pairs at pair) j d)
  first_below i j d b l m =
      let w = place.within in
      elim (cases_lt j at) [
        | inl c ↦ rw (get_or-insert_below pairs at pair d j c w) (rising i j d l (omega arith))
        | inr c ↦ elim (cases_eq j at) [
          | inl e ↦ rw (e, get_or-insert_at pairs at pair d w) (place.before i d b)
          | inr n ↦
              let q : j ≡ (j - 1) + 1 = omega arith in
              subst (λ (x : ℕ). IsLower (slice_index_or pairs i d) (get_or (insert pairs at pair) x d)) (sym q)
              (rw (get_or-insert_above pairs at pair d (j - 1) (omega arith) w) (rising i (j - 1) d (omega arith) (omega arith)))
        ]
      ]

  after_from : (j : ℕ) (d : Pair) → at < j → j < length pairs + 1 → get_or (insert pairs at pair) j d ≡ slice_index_or pairs (j - 1) d
  after_from j d l m =
      let w = place.within in
      let q : j ≡ (j - 1) + 1 = omega arith in
      ap (λ (x : ℕ). get_or (insert pairs at pair) x d) q ∙ get_or-insert_above pairs at pair d (j - 1) (omega arith) w

  -- one more pair at its place
  pub rising_more : AreRisingPairs (insert pairs at pair)
  rising_more = λ i j d l m.
      let w = place.within in
      let n = length-insert pairs at pair w in
      elim (cases_lt i at) [
        | inl b ↦ rw (get_or-insert_below pairs at pair d i b w) (first_below i j d b l (omega arith))
        | inr b ↦ elim (cases_eq i at) [
          | inl e ↦
              rw (e, get_or-insert_at pairs at pair d w)
              (rw (after_from j d (omega arith) (omega arith)) (above pairs pair at place new (j - 1) d (omega arith) (omega arith)))
          | inr s ↦
              rw (after_from i d (omega arith) (omega arith), after_from j d (omega arith) (omega arith))
              (rising (i - 1) (j - 1) d (omega arith) (omega arith))
        ]
      ]

-- What few of many things have, in front of a number and behind it.
use Rattle.std.proofs.Common.{◌≡◌, ℕ, zero, suc, ◌+◌, ◌<◌, ◌≤◌, List, [], ◌∷◌}
use Rattle.std.proofs.Common.{length, refl, sym, subst, inl, inr, arith}
use Rattle.std.specs.Prelude.{All}
use Rattle.std.proofs.lemmas.Bool.{cases_lt, lt-ltb, le-ltb, ne_eqb}
use Rattle.std.proofs.lemmas.Bool.Decides.{eqb_tells}
use Rattle.std.proofs.lemmas.List.Elements.{All-cons, All-nil}
use Rattle.run_record.specs.declared.flat.Mark.{Mark}
use Rattle.run_record.specs.Marks.{first_at, rest_at, marks_before, marks_from, AreUsed}

-- what comes first is as it was among the marks in front of a later number
pub first_before : {T : Type 0} (n m : ℕ) (other : T) (marks : List (Mark T)) → n < m → first_at n other (marks_before m marks) ≡ first_at n other marks
first_before n m other [] below = refl
first_before n m other (x ∷ marks) below = elim (cases_lt x.at m) [
  | inl l ↦ rw (lt-ltb x.at m l) refl
  | inr g ↦ rw (le-ltb x.at m g, ne_eqb x.at n (λ e. omega (arith, e, g, below))) refl
]

pub rest_before : {T : Type 0} (n m : ℕ) (marks : List (Mark T)) → n < m → rest_at n (marks_before m marks) ≡ marks_before m (rest_at n marks)
rest_before n m [] below = refl
rest_before n m (x ∷ marks) below = elim (eqb_tells x.at n) [
  | inl e ↦ let l : x.at < m = omega (arith, e.1, below) in rw (lt-ltb x.at m l, e.0) refl
  | inr e ↦ elim (cases_lt x.at m) [
    | inl l ↦ rw (lt-ltb x.at m l, e.0) (rw (lt-ltb x.at m l) refl)
    | inr g ↦ rw (le-ltb x.at m g, e.0) (rw (le-ltb x.at m g) refl)
  ]
]

-- the marks behind a later number are those that are left after the first
pub from_rest : {T : Type 0} (n m : ℕ) (marks : List (Mark T)) → n < m → marks_from m (rest_at n marks) ≡ marks_from m marks
from_rest n m [] below = refl
from_rest n m (x ∷ marks) below = elim (eqb_tells x.at n) [
  | inl e ↦ let l : x.at < m = omega (arith, e.1, below) in rw (lt-ltb x.at m l, e.0) refl
  | inr e ↦ rw e.0 refl
]

-- each mark is of one of the things
pub used_bounds : {T : Type 0} (n count : ℕ) (marks : List (Mark T)) → AreUsed n count marks → All (λ (x : Mark T). (n ≤ x.at) × (x.at < n + count)) marks
used_bounds {T} n zero marks used = rw used (All-nil (λ (x : Mark T). (n ≤ x.at) × (x.at < n + 0)))
used_bounds {T} n (suc count) [] used = All-nil (λ (x : Mark T). (n ≤ x.at) × (x.at < n + suc count))
used_bounds {T} n (suc count) (x ∷ marks) used = elim (eqb_tells x.at n) [
  | inl e ↦
      let later : All (λ (y : Mark T). (suc n ≤ y.at) × (y.at < suc n + count)) marks = used_bounds (suc n) count marks (rw e.0 at used) in
      All-cons (λ (y : Mark T). (n ≤ y.at) × (y.at < n + suc count)) x marks (omega (arith, e.1), omega (arith, e.1))
      (λ k d within. (omega (arith, later k d within), omega (arith, later k d within)))
  | inr e ↦
      let later : All (λ (y : Mark T). (suc n ≤ y.at) × (y.at < suc n + count)) (x ∷ marks) = used_bounds (suc n) count (x ∷ marks) (rw e.0 at used) in
      λ k d within. (omega (arith, later k d within), omega (arith, later k d within))
]

-- there are no more marks than things
pub used_count : {T : Type 0} (n count : ℕ) (marks : List (Mark T)) → AreUsed n count marks → length marks ≤ count
used_count n zero marks used = rw used (omega arith)
used_count n (suc count) [] used = omega arith
used_count n (suc count) (x ∷ marks) used = elim (eqb_tells x.at n) [
  | inl e ↦ omega (arith, used_count (suc n) count marks (rw e.0 at used))
  | inr e ↦ omega (arith, used_count (suc n) count (x ∷ marks) (rw e.0 at used))
]

used_first : {T : Type 0} (n count : ℕ) (x : Mark T) (marks : List (Mark T)) → AreUsed n count (x ∷ marks) → n ≤ x.at
used_first n count x marks used = (used_bounds n count (x ∷ marks) used 0 x (omega arith)).0

-- none is in front of the first thing
pub used_from : {T : Type 0} (n count : ℕ) (marks : List (Mark T)) → AreUsed n count marks → (marks_from n marks ≡ marks) × (marks_before n marks ≡ [])
used_from n count [] used = (refl, refl)
used_from n count (x ∷ marks) used =
    let g : n ≤ x.at = used_first n count x marks used in
    (rw (le-ltb x.at n g) refl, rw (le-ltb x.at n g) refl)

-- the marks of the first things, and of the others
pub before_used : {T : Type 0} (n a b : ℕ) (marks : List (Mark T)) → AreUsed n (a + b) marks → AreUsed n a (marks_before (n + a) marks)
before_used n zero b marks used =
    let same : n + 0 ≡ n = omega arith in
    rw same (used_from n (0 + b) marks used).1
before_used {T} n (suc a) b marks used =
    let next : n + suc a ≡ suc n + a = omega arith in
    let count : suc a + b ≡ suc (a + b) = omega arith in
    let used' : AreUsed n (suc (a + b)) marks = subst (λ (c : ℕ). AreUsed n c marks) count used in
    subst (AreUsed (suc n) a) (sym (rest_before n (n + suc a) marks (omega arith)))
    (subst (λ (m : ℕ). AreUsed (suc n) a (marks_before m (rest_at n marks))) (sym next) (before_used (suc n) a b (rest_at n marks) used'))

pub from_used : {T : Type 0} (n a b : ℕ) (marks : List (Mark T)) → AreUsed n (a + b) marks → AreUsed (n + a) b (marks_from (n + a) marks)
from_used {T} n zero b marks used =
    let same : n + 0 ≡ n = omega arith in
    let same' : 0 + b ≡ b = omega arith in
    rw same (rw (used_from n (0 + b) marks used).0 (subst (λ (c : ℕ). AreUsed n c marks) same' used))
from_used {T} n (suc a) b marks used =
    let next : n + suc a ≡ suc n + a = omega arith in
    let count : suc a + b ≡ suc (a + b) = omega arith in
    let used' : AreUsed n (suc (a + b)) marks = subst (λ (c : ℕ). AreUsed n c marks) count used in
    subst (AreUsed (n + suc a) b) (from_rest n (n + suc a) marks (omega arith))
    (subst (λ (m : ℕ). AreUsed m b (marks_from m (rest_at n marks))) (sym next) (from_used (suc n) a b (rest_at n marks) used'))

-- Sums and places in lists.
use Rattle.std.proofs.Common.{◌≡◌, ◌<◌, ◌≤◌, ◌+◌, ℕ, zero, suc, ◌==◌, Bool, true, false, cond, List, [], ◌∷◌, ◌++◌, length, get_or, set, replicate, refl, sym, ap, subst, ◌∙◌, inl, inr, arith, add-zero, zero-add, eq-eqb, ne_eqb}
use Rattle.std.specs.Prelude.{sum_by, count_by}
use Rattle.std.proofs.lemmas.Bool.{cases_eq}
use Rattle.std.proofs.lemmas.List.{get_or-set_same, get_or-set_other, get_or_default}
use Rattle.std.proofs.lemmas.List.Sums.{sum_by-cons, sum_by_push, count_by-le-length}
use Rattle.run_laws.specs.Numbers.{up_from}

-- one more term
pub sum_by-cons_is : {X : Type 0} (f : X → ℕ) (x : X) (xs : List X) (n : ℕ) → f x ≡ n → sum_by f (x ∷ xs) ≡ n + sum_by f xs
sum_by-cons_is f x xs n e = sum_by-cons f x xs ∙ ap (λ m. m + sum_by f xs) e

pub sum_by_push_is : {X : Type 0} (f : X → ℕ) (xs : List X) (x : X) (n : ℕ) → f x ≡ n → sum_by f (xs ++ x ∷ []) ≡ sum_by f xs + n
sum_by_push_is f xs x n e = sum_by_push f xs x ∙ ap (λ m. sum_by f xs + m) e

test_at_most : (b : Bool) → cond b 1 0 ≤ 1
test_at_most true = omega arith
test_at_most false = omega arith

-- each term is at most the sum
pub sum_by_at : {X : Type 0} (f : X → ℕ) (xs : List X) (i : ℕ) (d : X) → i < length xs → f (get_or xs i d) ≤ sum_by f xs
sum_by_at f [] i d l = absurd (omega arith)
sum_by_at f (x ∷ xs) zero d l = omega (arith, sum_by-cons f x xs)
sum_by_at f (x ∷ xs) (suc i) d l = omega (arith, sum_by-cons f x xs, sum_by_at f xs i d (omega arith))

-- where one fails the test not all pass it
pub count_by_less : {X : Type 0} (p : X → Bool) (xs : List X) (i : ℕ) (d : X) → i < length xs → p (get_or xs i d) ≡ false → count_by p xs < length xs
count_by_less p [] i d l e = absurd (omega arith)
count_by_less {X} p (x ∷ xs) zero d l e =
    let z = sum_by-cons_is (λ (y : X). cond (p y) 1 0) x xs 0 (rw e refl) in
    let m = count_by-le-length p xs in
    omega arith
count_by_less {X} p (x ∷ xs) (suc i) d l e =
    let r = count_by_less p xs i d (omega arith) e in
    let one = test_at_most (p x) in
    let z = sum_by-cons (λ (y : X). cond (p y) 1 0) x xs in
    omega arith

pub sum_by-replicate_zero : {X : Type 0} (f : X → ℕ) (n : ℕ) (x : X) → f x ≡ 0 → sum_by f (replicate n x) ≡ 0
sum_by-replicate_zero f zero x e = refl
sum_by-replicate_zero f (suc n) x e = omega (arith, sum_by-cons f x (replicate n x), sum_by-replicate_zero f n x e)

pub sum_by-replicate_one : {X : Type 0} (f : X → ℕ) (n : ℕ) (x : X) → f x ≡ 1 → sum_by f (replicate n x) ≡ n
sum_by-replicate_one f zero x e = refl
sum_by-replicate_one f (suc n) x e = omega (arith, sum_by-cons f x (replicate n x), sum_by-replicate_one f n x e)

-- what holds of the new element, and of each other one at its place, holds of all
pub at_each_set : {X : Type 0} (P : ℕ → X → Type 0) (xs : List X) (i : ℕ) (y d : X) → i < length xs → P i y → ((r : ℕ) → (r ≡ i → ⊥) → P r (get_or xs r d)) → (r : ℕ) → P r (get_or (set xs i y) r d)
at_each_set P xs i y d l here there r =
    elim (cases_eq r i) [
      | inl q ↦ subst (λ x. P x (get_or (set xs i y) x d)) (sym q) (rw (get_or-set_same xs i y d l) here)
      | inr n ↦ rw (get_or-set_other xs i r y d n) (there r n)
    ]

-- an element that was read, with another default
pub read_at : {X : Type 0} (xs : List X) (i : ℕ) (x d : X) → i < length xs → x ≡ get_or xs i x → x ≡ get_or xs i d
read_at xs i x d l e = e ∙ get_or_default xs i x d l

-- counting the numbers from k on
pub length-up_from : (k n : ℕ) → length (up_from k n) ≡ n
length-up_from k zero = refl
length-up_from k (suc n) = ap suc (length-up_from (suc k) n)

pub up_from-push : (k n : ℕ) → up_from k (n + 1) ≡ up_from k n ++ (k + n) ∷ []
up_from-push k zero = rw (add-zero k) refl
up_from-push k (suc n) =
    let e : suc n + 1 ≡ suc (n + 1) = omega arith in
    let f : suc k + n ≡ k + suc n = omega arith in
    rw e (ap (λ (xs : List ℕ). k ∷ xs) (up_from-push (suc k) n ∙ ap (λ m. up_from (suc k) n ++ m ∷ []) f))

abbrev pub times : ℕ → List ℕ → ℕ
times s xs = count_by (λ (x : ℕ). x == s) xs

pub times-cons_same : (s : ℕ) (xs : List ℕ) → times s (s ∷ xs) ≡ 1 + times s xs
times-cons_same s xs = sum_by-cons_is (λ (x : ℕ). cond (x == s) 1 0) s xs 1 (rw (eq-eqb s s refl) refl)

pub times-cons_other : (s x : ℕ) (xs : List ℕ) → (x ≡ s → ⊥) → times s (x ∷ xs) ≡ times s xs
times-cons_other s x xs d = sum_by-cons_is (λ (x : ℕ). cond (x == s) 1 0) x xs 0 (rw (ne_eqb x s d) refl) ∙ zero-add (times s xs)

pub times_push_same : (s : ℕ) (xs : List ℕ) → times s (xs ++ s ∷ []) ≡ times s xs + 1
times_push_same s xs = sum_by_push_is (λ (x : ℕ). cond (x == s) 1 0) xs s 1 (rw (eq-eqb s s refl) refl)

pub times_push_other : (s x : ℕ) (xs : List ℕ) → (x ≡ s → ⊥) → times s (xs ++ x ∷ []) ≡ times s xs
times_push_other s x xs d = sum_by_push_is (λ (x : ℕ). cond (x == s) 1 0) xs x 0 (rw (ne_eqb x s d) refl) ∙ add-zero (times s xs)

pub times-up_from : (s k n : ℕ) → (s < k → times s (up_from k n) ≡ 0) × (k ≤ s → s < k + n → times s (up_from k n) ≡ 1) × (k + n ≤ s → times s (up_from k n) ≡ 0)
times-up_from s k zero = (λ l. refl, λ a b. absurd (omega arith), λ l. refl)
times-up_from s k (suc n) =
    let r = times-up_from s (suc k) n in
    elim (cases_eq k s) [
      | inl q ↦ (λ l. absurd (omega arith), λ a b. subst (λ x. times x (up_from k (suc n)) ≡ 1) q (times-cons_same k (up_from (suc k) n) ∙ (let z = (times-up_from k (suc k) n).0 (omega arith) in omega arith)), λ l. absurd (omega arith))
      | inr d ↦
          let c = times-cons_other s k (up_from (suc k) n) d in
          (λ l. c ∙ r.0 (omega arith), λ a b. c ∙ r.1 (omega arith) (omega arith), λ l. c ∙ r.2 (omega arith))
    ]

pub up_from-next : (n : ℕ) → up_from 0 (n + 1) ≡ up_from 0 n ++ n ∷ []
up_from-next n = up_from-push 0 n ∙ ap (λ m. up_from 0 n ++ m ∷ []) (zero-add n)

-- a list of one element many times
pub all_same : {X : Type 0} (xs : List X) (n : ℕ) (x d : X) → length xs ≡ n → ((k : ℕ) → k < n → get_or xs k d ≡ x) → xs ≡ replicate n x
all_same [] n x d e f = subst (λ m. [] ≡ replicate m x) e refl
all_same (y ∷ xs) zero x d e f = absurd (omega arith)
all_same (y ∷ xs) (suc n) x d e f =
    let here : y ≡ x = f zero (omega arith) in
    let rest = all_same xs n x d (omega arith) (λ k l. f (suc k) (omega arith)) in
    rw (here, rest) refl

-- Lists with one element changed or one more, and functions but for one number.
use Rattle.std.proofs.Common.{◌≡◌, ◌≢◌, ◌<◌, ℕ, zero, suc, Bool, cond, List, [], ◌∷◌, ◌++◌, length, slice_get, slice_set, Some, refl, sym, ap, ◌∙◌, arith, ◌+◌}
use Rattle.std.specs.Prelude.{map, count_by, slice_index}
use Rattle.std.specs.Option.{option_map}
use Rattle.std.proofs.lemmas.List.Sums.{sum_by-cons}

-- ---- places of a list

pub set_set : {X : Type 0} (xs : List X) (i : ℕ) (x y : X) → slice_set (slice_set xs i x) i y ≡ slice_set xs i y
set_set [] i x y = refl
set_set (z ∷ xs) zero x y = refl
set_set (z ∷ xs) (suc i) x y = ap (λ rest. z ∷ rest) (set_set xs i x y)

pub set_same : {X : Type 0} (xs : List X) (i : ℕ) (x : X) → slice_get xs i ≡ Some x → slice_set xs i x ≡ xs
set_same [] i x e = refl
set_same (z ∷ xs) zero x e = (let q : z ≡ x = cc in ap (λ y. y ∷ xs) (sym q))
set_same (z ∷ xs) (suc i) x e = ap (λ rest. z ∷ rest) (set_same xs i x e)

pub set_append : {X : Type 0} (xs ys : List X) (i : ℕ) (x : X) → i < length xs → slice_set (xs ++ ys) i x ≡ slice_set xs i x ++ ys
set_append [] ys i x h = absurd (omega arith)
set_append (z ∷ xs) ys zero x h = refl
set_append (z ∷ xs) ys (suc i) x h = ap (λ rest. z ∷ rest) (set_append xs ys i x (omega arith))

pub get_set_same : {X : Type 0} (xs : List X) (i : ℕ) (x : X) → i < length xs → slice_get (slice_set xs i x) i ≡ Some x
get_set_same [] i x h = absurd (omega arith)
get_set_same (z ∷ xs) zero x h = refl
get_set_same (z ∷ xs) (suc i) x h = get_set_same xs i x (omega arith)

pub get_set_other : {X : Type 0} (xs : List X) (i u : ℕ) (x : X) → u ≢ i → slice_get (slice_set xs i x) u ≡ slice_get xs u
get_set_other [] i u x n = refl
get_set_other (z ∷ xs) zero zero x n = absurd (n refl)
get_set_other (z ∷ xs) zero (suc u) x n = refl
get_set_other (z ∷ xs) (suc i) zero x n = refl
get_set_other (z ∷ xs) (suc i) (suc u) x n = get_set_other xs i u x (λ e. n (ap suc e))

-- one more element changes no place below it, and none but its own
pub get_push_below : {X : Type 0} (xs : List X) (x : X) (u : ℕ) → u < length xs → slice_get (xs ++ x ∷ []) u ≡ slice_get xs u
get_push_below [] x u h = absurd (omega arith)
get_push_below (z ∷ xs) x zero h = refl
get_push_below (z ∷ xs) x (suc u) h = get_push_below xs x u (omega arith)

-- two lists that are alike stay so with one more
pub get_push_alike : {X : Type 0} (xs ys : List X) (x : X) (u : ℕ) → length xs ≡ length ys → slice_get xs u ≡ slice_get ys u → slice_get (xs ++ x ∷ []) u ≡ slice_get (ys ++ x ∷ []) u
get_push_alike [] [] x u l e = refl
get_push_alike [] (y ∷ ys) x u l e = absurd (omega arith)
get_push_alike (z ∷ xs) [] x u l e = absurd (omega arith)
get_push_alike (z ∷ xs) (y ∷ ys) x zero l e = e
get_push_alike (z ∷ xs) (y ∷ ys) x (suc u) l e = get_push_alike xs ys x u (omega arith) e

pub length_push : {X : Type 0} (xs : List X) (x : X) → length (xs ++ x ∷ []) ≡ suc (length xs)
length_push [] x = refl
length_push (y ∷ xs) x = ap suc (length_push xs x)

-- ---- numbers at a place

pub index_set_same : (xs : List ℕ) (i x : ℕ) → i < length xs → slice_index (slice_set xs i x) i ≡ x
index_set_same [] i x h = absurd (omega arith)
index_set_same (z ∷ xs) zero x h = refl
index_set_same (z ∷ xs) (suc i) x h = index_set_same xs i x (omega arith)

pub index_set_other : (xs : List ℕ) (i u x : ℕ) → u ≢ i → slice_index (slice_set xs i x) u ≡ slice_index xs u
index_set_other [] i u x n = refl
index_set_other (z ∷ xs) zero zero x n = absurd (n refl)
index_set_other (z ∷ xs) zero (suc u) x n = refl
index_set_other (z ∷ xs) (suc i) zero x n = refl
index_set_other (z ∷ xs) (suc i) (suc u) x n = index_set_other xs i u x (λ e. n (ap suc e))

-- ---- what is told of each element

module _ {X Y : Type 0} (f : X → Y) where
  pub map_set : (xs : List X) (i : ℕ) (x : X) → map f (slice_set xs i x) ≡ slice_set (map f xs) i (f x)
  map_set [] i x = refl
  map_set (z ∷ xs) zero x = refl
  map_set (z ∷ xs) (suc i) x = ap (λ rest. f z ∷ rest) (map_set xs i x)

  pub map_push : (xs : List X) (x : X) → map f (xs ++ x ∷ []) ≡ map f xs ++ f x ∷ []
  map_push [] x = refl
  map_push (z ∷ xs) x = ap (λ rest. f z ∷ rest) (map_push xs x)

  pub get_map : (xs : List X) (i : ℕ) → slice_get (map f xs) i ≡ option_map f (slice_get xs i)
  get_map [] i = refl
  get_map (z ∷ xs) zero = refl
  get_map (z ∷ xs) (suc i) = get_map xs i

pub count_map : {X : Type 0} (f : X → Bool) (xs : List X) → count_by (λ (b : Bool). b) (map f xs) ≡ count_by f xs
count_map f [] = refl
count_map f (x ∷ xs) =
    sum_by-cons (λ (b : Bool). cond b 1 0) (f x) (map f xs) ∙ (ap (λ n. cond (f x) 1 0 + n) (count_map f xs) ∙ sym (sum_by-cons (λ (y : _). cond (f y) 1 0) x xs))

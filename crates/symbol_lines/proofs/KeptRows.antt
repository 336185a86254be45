-- The rows that a place can have: those that no later row hides.
use Rattle.std.proofs.Common.{◌≡◌, ℕ, zero, suc, ◌-◌, ◌<◌, ◌≤◌, Bool, true, false, cond, leb, ltb, List, [], ◌∷◌, ◌++◌, length, get_or, take, Option, Some, None, refl, ap, ◌∙◌, inl, inr, arith}
use Rattle.std.specs.Prelude.{filter, fold}
use Rattle.std.proofs.lemmas.Bool.{cases_Bool, leb-false, ltb-false, leb-true}
use Rattle.std.proofs.lemmas.List.{length-take, get_or-take}
use Rattle.std.proofs.lemmas.List.Sorted.{IsNonDecreasingBy-push, IsNonDecreasingBy-take}
use Rattle.symbol_lines.specs.declared.rows.Row.{Row}
use Rattle.symbol_lines.specs.Kept.{IsRising, add_kept, kept_rows}
use Rattle.symbol_lines.specs.Lines.{row_from, row_at}

lt-leb-false : (a b : ℕ) → b < a → leb a b ≡ false
lt-leb-false a b lt = elim (cases_Bool (leb a b)) [
  | inl le ↦ absurd (omega (arith, leb-true a b le))
  | inr gt ↦ gt
]

-- what passes a test stands in front
pub filter_front : {X : Type 0} (p : X → Bool) (xs : List X) (n : ℕ) → ((k : ℕ) (d : X) → k < n → k < length xs → p (get_or xs k d) ≡ true) → ((k : ℕ) (d : X) → n ≤ k → k < length xs → p (get_or xs k d) ≡ false) → filter p xs ≡ take n xs
filter_front p [] zero front back = refl
filter_front p [] (suc n) front back = refl
filter_front p (x ∷ xs) zero front back =
    let miss : p x ≡ false = back 0 x (omega arith) (omega arith) in
    rw miss (filter_front p xs 0 (λ k d lt in'. absurd (omega arith)) (λ k d le lt. back (suc k) d (omega arith) (omega arith)))
filter_front p (x ∷ xs) (suc n) front back =
    let hit : p x ≡ true = front 0 x (omega arith) (omega arith) in
    rw hit (ap (λ (ys : List _). x ∷ ys) (filter_front p xs n (λ k d lt in'. front (suc k) d (omega arith) (omega arith)) (λ k d le lt. back (suc k) d (omega arith) (omega arith))))

pub row_from-append : (o : Option Row) (xs ys : List Row) (p : ℕ) → row_from o (xs ++ ys) p ≡ row_from (row_from o xs p) ys p
row_from-append o [] ys p = refl
row_from-append o (x ∷ xs) ys p = row_from-append (cond (leb x.address p) (Some x) o) xs ys p

pub row_at-push : (xs : List Row) (r : Row) (p : ℕ) → row_at (xs ++ r ∷ []) p ≡ cond (leb r.address p) (Some r) (row_at xs p)
row_at-push xs r p = row_from-append None xs (r ∷ []) p

-- a place below an address has the same row without those from that address on
row_from-filter : (o : Option Row) (xs : List Row) (a p : ℕ) → p < a → row_from o (filter (λ (r : Row). ltb r.address a) xs) p ≡ row_from o xs p
row_from-filter o [] a p lt = refl
row_from-filter o (x ∷ xs) a p lt =
    elim (cases_Bool (ltb x.address a)) [
      | inl low ↦ rw low (row_from-filter (cond (leb x.address p) (Some x) o) xs a p lt)
      | inr high ↦
          let le = ltb-false x.address a high in
          let above : leb x.address p ≡ false = lt-leb-false x.address p (omega arith) in
          rw (high, above) (row_from-filter o xs a p lt)
    ]

row_at-add_kept : (ks : List Row) (r : Row) (p : ℕ) → row_at (add_kept ks r) p ≡ cond (leb r.address p) (Some r) (row_at ks p)
row_at-add_kept ks r p =
    row_at-push (filter (λ (k : Row). ltb k.address r.address) ks) r p ∙ elim (cases_Bool (leb r.address p)) [
      | inl here ↦ rw here refl
      | inr above ↦
          let lt = leb-false r.address p above in
          rw above (row_from-filter None ks r.address p lt)
    ]

row_at-fold : (ks rs : List Row) (p : ℕ) → row_at (fold add_kept ks rs) p ≡ row_from (row_at ks p) rs p
row_at-fold ks [] p = refl
row_at-fold ks (r ∷ rs) p = row_at-fold (add_kept ks r) rs p ∙ ap (λ (o : Option Row). row_from o rs p) (row_at-add_kept ks r p)

-- the rows that are kept serve for all
pub row_at-kept : (rs : List Row) (p : ℕ) → row_at (kept_rows rs) p ≡ row_at rs p
row_at-kept rs p = row_at-fold [] rs p

pub fold-push : {A B : Type 0} (f : B → A → B) (b : B) (xs : List A) (x : A) → fold f b (xs ++ x ∷ []) ≡ f (fold f b xs) x
fold-push f b [] x = refl
fold-push f b (y ∷ ys) x = fold-push f (f b y) ys x

-- one more row, where those below it stand in front
pub rising_push : (rows : List Row) (n : ℕ) (r : Row) → IsRising rows → ((k : ℕ) (d : Row) → k < n → k < length rows → (get_or rows k d).address < r.address) → n ≤ length rows → IsRising (take n rows ++ r ∷ [])
rising_push rows n r up low le =
    IsNonDecreasingBy-push (λ (k : Row). k.address) (take n rows) r (IsNonDecreasingBy-take (λ (k : Row). k.address) n rows up)
    (λ d some.
    let len : length (take n rows) ≡ n = omega (arith, length-take n rows) in
    let e : get_or (take n rows) (length (take n rows) - 1) d ≡ get_or rows (length (take n rows) - 1) d = get_or-take n rows (length (take n rows) - 1) d (omega arith) in
    rw e (omega (arith, low (length (take n rows) - 1) d (omega arith) (omega arith))))

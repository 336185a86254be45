-- What a sort of std says gives the same members.
use Rattle.std.proofs.Common.{◌≡◌, ℕ, zero, suc, ◌<◌, List, [], ◌∷◌, length, inl, inr, refl, sym, subst, arith}
use Rattle.std.specs.Prelude.{slice_index_or}
use Rattle.std.specs.List.Sorted.{IsPermutation}
use Rattle.std.proofs.lemmas.List.Sorted.{All-permutation, IsPermutation-sym}
use Rattle.turn_orders.specs.Lists.{In, SameMembers}

module _ {X : Type 0} where
  index_in : (xs : List X) (k : ℕ) (d : X) → k < length xs → In (slice_index_or xs k d) xs
  index_in [] k d l = absurd (omega arith)
  index_in (x ∷ xs) zero d l = inl refl
  index_in (x ∷ xs) (suc k) d l = inr (index_in xs k d (omega arith))

  in_index : (x : X) (xs : List X) → In x xs → (k : ℕ) × (k < length xs) × (slice_index_or xs k x ≡ x)
  in_index x [] i = absurd i
  in_index x (y ∷ xs) (inl e) = (0, omega arith, sym e)
  in_index x (y ∷ xs) (inr i) = let r = in_index x xs i in let l = r.1 in (suc r.0, omega arith, r.2)

  one_way : (xs ys : List X) → IsPermutation xs ys → (x : X) → In x ys → In x xs
  one_way xs ys p x i =
      let r = in_index x ys i in
      subst (λ (z : X). In z xs) r.2 (All-permutation (λ y. In y xs) xs ys p (λ k d l. index_in xs k d l) r.0 x r.1)

  pub same_members : (xs ys : List X) → IsPermutation xs ys → SameMembers xs ys
  same_members xs ys p x = (one_way ys xs (IsPermutation-sym xs ys p) x, one_way xs ys p x)

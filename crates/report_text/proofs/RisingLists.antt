-- Lists that rise strictly: there is one with given elements.
use Rattle.std.proofs.Common.{◌≡◌, ◌⊎◌, zero, suc, List, [], ◌∷◌, refl, sym, ◌∙◌, ap₂, subst, inl, inr, arith, Contains}
use Rattle.std.specs.Prelude.{AllPairs}

in_cons : {X : Type 0} (x : X) (xs : List X) (z : X) → Contains (x ∷ xs) z → (x ≡ z) ⊎ Contains xs z
in_cons x xs z (zero, l, e) = inl e
in_cons x xs z (suc k, l, e) = inr (k, omega arith, e)

at_head : {X : Type 0} (x : X) (xs : List X) → Contains (x ∷ xs) x
at_head x xs = (0, omega arith, refl)

behind_head : {X : Type 0} (x : X) (xs : List X) (z : X) → Contains xs z → Contains (x ∷ xs) z
behind_head x xs z (k, l, e) = (suc k, omega arith, e)

module _ {X : Type 0} (Below : X → X → Type 0) (turn : (x y : X) → Below x y → Below y x → ⊥) where
  rest_rises : (x : X) (xs : List X) → AllPairs Below (x ∷ xs) → AllPairs Below xs
  rest_rises x xs s = λ i j d l m. s (suc i) (suc j) d (omega arith) (omega arith)

  head_below : (x : X) (xs : List X) (y : X) → AllPairs Below (x ∷ xs) → Contains xs y → Below x y
  head_below x xs y s (k, l, e) = subst (λ (z : X). Below x z) e (s 0 (suc k) y (omega arith) (omega arith))

  rest_among : (x : X) (xs : List X) (y : X) (ys : List X) → x ≡ y → AllPairs Below (x ∷ xs) →
      ((z : X) → Contains (x ∷ xs) z → Contains (y ∷ ys) z) → (z : X) → Contains xs z → Contains ys z
  rest_among x xs y ys e s to z c = elim (in_cons y ys z (to z (behind_head x xs z c))) [
    | inl same ↦
        let below = head_below x xs z s c in
        let itself : Below x x = subst (λ (w : X). Below x w) (sym (e ∙ same)) below in
        absurd (turn x x itself itself)
    | inr there ↦ there
  ]

  -- two lists that rise strictly and have the same elements are the same
  pub same_rising : (xs ys : List X) → AllPairs Below xs → AllPairs Below ys → ((z : X) → Contains xs z → Contains ys z) →
      ((z : X) → Contains ys z → Contains xs z) → xs ≡ ys
  same_rising [] [] s t to back = refl
  same_rising [] (y ∷ ys) s t to back = absurd (omega (arith, (back y (at_head y ys)).1))
  same_rising (x ∷ xs) [] s t to back = absurd (omega (arith, (to x (at_head x xs)).1))
  same_rising (x ∷ xs) (y ∷ ys) s t to back =
      let e : x ≡ y = elim (in_cons y ys x (to x (at_head x xs))) [
        | inl same ↦ sym same
        | inr later ↦ elim (in_cons x xs y (back y (at_head y ys))) [
          | inl same ↦ same
          | inr after ↦ absurd (turn x y (head_below x xs y s after) (head_below y ys x t later))
        ]
      ] in
      let behind = same_rising xs ys (rest_rises x xs s) (rest_rises y ys t)
      (rest_among x xs y ys e s to) (rest_among y ys x xs (sym e) t back) in
      ap₂ (λ (a : X) (rest : List X). a ∷ rest) e behind

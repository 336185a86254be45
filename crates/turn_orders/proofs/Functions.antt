-- Functions that are as others but for one number.
use Rattle.std.proofs.Common.{◌≡◌, ◌≢◌, ℕ, Bool, true, false, cond, eqb, refl, sym, ap, subst, ◌∙◌, eq-eqb, ne_eqb}
use mathlib.Core.Path.{fun_ext}
use mathlib.Core.Logic.{dite}
use native.Mathlib.Decide.{ℕ_discrete}
use Rattle.turn_orders.specs.Machine.{but}

module _ {X : Type 0} where
  pub but_here : (f : ℕ → X) (i j : ℕ) (x : X) → j ≡ i → but f i x j ≡ x
  but_here f i j x e = ap (λ (b : Bool). cond b x (f j)) (eq-eqb j i e)

  pub but_else : (f : ℕ → X) (i j : ℕ) (x : X) → j ≢ i → but f i x j ≡ f j
  but_else f i j x ne = ap (λ (b : Bool). cond b x (f j)) (ne_eqb j i ne)

  -- the later of two counts
  pub but_twice : (f : ℕ → X) (i : ℕ) (x y : X) → but (but f i x) i y ≡ but f i y
  but_twice f i x y = fun_ext (λ j. dite (ℕ_discrete j i)
      (λ e. but_here (but f i x) i j y e ∙ sym (but_here f i j y e))
      (λ ne. but_else (but f i x) i j y ne ∙ (but_else f i j x ne ∙ sym (but_else f i j y ne))))

  -- with what was there nothing changes
  pub but_same : (f : ℕ → X) (i : ℕ) → but f i (f i) ≡ f
  but_same f i = fun_ext (λ j. dite (ℕ_discrete j i)
      (λ e. but_here f i j (f i) e ∙ ap f (sym e))
      (λ ne. but_else f i j (f i) ne))

  -- what holds at the number and at each other one
  pub but_each : (P : ℕ → X → Type 0) (f : ℕ → X) (i : ℕ) (x : X) → P i x → ((u : ℕ) → u ≢ i → P u (f u)) → (u : ℕ) → P u (but f i x u)
  but_each P f i x here there u = dite (ℕ_discrete u i)
      (λ e. subst (P u) (sym (but_here f i u x e)) (subst (λ (v : ℕ). P v x) (sym e) here))
      (λ ne. subst (P u) (sym (but_else f i u x ne)) (there u ne))

cond_map : {X Y : Type 0} (f : X → Y) (b : Bool) (x y : X) → f (cond b x y) ≡ cond b (f x) (f y)
cond_map f true x y = refl
cond_map f false x y = refl

-- what is told of each value
pub but_map : {X Y : Type 0} (f : X → Y) (h : ℕ → X) (i : ℕ) (x : X) → (λ (u : ℕ). f (but h i x u)) ≡ but (λ (u : ℕ). f (h u)) i (f x)
but_map f h i x = fun_ext (λ u. cond_map f (eqb u i) x (h u))

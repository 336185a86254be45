-- Choices by a test whose answer is known.
use Rattle.std.proofs.Common.{◌≡◌, ◌≢◌, ℕ, Bool, true, false, cond, refl, ap, eq-eqb, ne_eqb, arith}
use Rattle.std.specs.Prelude.{◌==◌, ◌&&◌, max}

module _ {A : Type 0} where
  pub if_yes : (j k : ℕ) (a b : A) → j ≡ k → cond (j == k) a b ≡ a
  if_yes j k a b e = ap (λ (t : Bool). cond t a b) (eq-eqb j k e)

  pub if_no : (j k : ℕ) (a b : A) → j ≢ k → cond (j == k) a b ≡ b
  if_no j k a b ne = ap (λ (t : Bool). cond t a b) (ne_eqb j k ne)

  pub if_true : (b : Bool) (x y : A) → b ≡ true → cond b x y ≡ x
  if_true b x y e = ap (λ (t : Bool). cond t x y) e

  pub if_false : (b : Bool) (x y : A) → b ≡ false → cond b x y ≡ y
  if_false b x y e = ap (λ (t : Bool). cond t x y) e

pub and_false : (b : Bool) → (b && false) ≡ false
and_false true = refl
and_false false = refl

pub max_zero : (n : ℕ) → max n 0 ≡ n
max_zero n = omega arith

pub zero_max : (n : ℕ) → max 0 n ≡ n
zero_max n = omega arith

-- The upper half of a product of 128 bits.
use Rattle.std.proofs.Common.{◌≡◌, ℕ, ◌<◌, ◌≤◌, ◌^◌, ◌-◌, arith, ℤ, pos, negsuc, ◌*ℤ◌, FitsSigned, to_z, of_z, w64, ◌∙◌, ap}
use Rattle.std.specs.Prelude.{unsigned_abs}
use Rattle.std.specs.Int.{w128, int_shr}
use Rattle.std.specs.Int.Signed.{mag}
use Rattle.std.proofs.lemmas.Int.{to_z-of_z, fits_signed_mul}

pub fits_w64 : (x : ℤ) → mag x < 2 ^ 63 → FitsSigned w64 x
fits_w64 x h = record { sfits = h }

wider : (z : ℤ) → FitsSigned w64 z → FitsSigned w128 z
wider z h = record { sfits = omega (arith, h.sfits) }

pub word_fits : (b : ℕ) → b < 2 ^ 64 → FitsSigned w128 (pos b)
word_fits b h = record { sfits = omega arith }

abs_bound : (x : ℤ) → FitsSigned w64 x → unsigned_abs x ≤ 2 ^ 63
abs_bound (pos n) h = omega (arith, h.sfits)
abs_bound (negsuc n) h = omega (arith, h.sfits)

product_fits : (x y : ℤ) → FitsSigned w64 x → FitsSigned w64 y → FitsSigned w128 (x *ℤ y)
product_fits x y p q = fits_signed_mul w128 x y (2 ^ 63) (2 ^ 63) (abs_bound x p) (abs_bound y q) (omega arith)

mixed_fits : (x : ℤ) (b : ℕ) → FitsSigned w64 x → b < 2 ^ 64 → FitsSigned w128 (x *ℤ pos b)
mixed_fits x b p q = fits_signed_mul w128 x (pos b) (2 ^ 63) (2 ^ 64 - 1) (abs_bound x p) (omega arith) (omega arith)

half_fits : (z : ℤ) → FitsSigned w128 z → FitsSigned w64 (int_shr z 64)
half_fits (pos n) h = record { sfits = omega (arith, h.sfits) }
half_fits (negsuc n) h = record { sfits = omega (arith, h.sfits) }

-- what the code computes of two numbers of 128 bits
abbrev pub halved : ℤ → ℤ → ℕ
halved x y = of_z w64 (to_z w64 (of_z w64 (to_z w128 (of_z w128 (int_shr (to_z w128 (of_z w128 (to_z w128 (of_z w128 x) *ℤ to_z w128 (of_z w128 y)))) 64)))))

-- no cast on the way to the upper half loses anything
upper_half : (z : ℤ) → FitsSigned w128 z →
    of_z w64 (to_z w64 (of_z w64 (to_z w128 (of_z w128 (int_shr (to_z w128 (of_z w128 z)) 64))))) ≡ of_z w64 (int_shr z 64)
upper_half z h =
    let half : FitsSigned w64 (int_shr z 64) = half_fits z h in
    ap (λ (y : ℤ). of_z w64 (to_z w64 (of_z w64 (to_z w128 (of_z w128 (int_shr y 64)))))) (to_z-of_z w128 z h)
    ∙ ap (λ (y : ℤ). of_z w64 (to_z w64 (of_z w64 y))) (to_z-of_z w128 (int_shr z 64) (wider (int_shr z 64) half))
    ∙ ap (of_z w64) (to_z-of_z w64 (int_shr z 64) half)

upper_of_product : (x y : ℤ) → FitsSigned w128 x → FitsSigned w128 y → FitsSigned w128 (x *ℤ y) → halved x y ≡ of_z w64 (int_shr (x *ℤ y) 64)
upper_of_product x y p q f =
    let after : ℤ → ℤ → ℕ = λ a b. of_z w64 (to_z w64 (of_z w64 (to_z w128 (of_z w128 (int_shr (to_z w128 (of_z w128 (a *ℤ b))) 64))))) in
    ap (λ (a : ℤ). after a (to_z w128 (of_z w128 y))) (to_z-of_z w128 x p)
    ∙ ap (λ (b : ℤ). after x b) (to_z-of_z w128 y q)
    ∙ upper_half (x *ℤ y) f

-- x and y are seen as numbers of 128 bits f and g
pub halved_signed : (x y f g : ℤ) → FitsSigned w64 x → FitsSigned w64 y → f ≡ to_z w64 (of_z w64 x) → g ≡ to_z w64 (of_z w64 y) →
    halved f g ≡ of_z w64 (int_shr (x *ℤ y) 64)
halved_signed x y f g p q e d =
    ap (λ (a : ℤ). halved a g) (e ∙ to_z-of_z w64 x p)
    ∙ ap (λ (b : ℤ). halved x b) (d ∙ to_z-of_z w64 y q)
    ∙ upper_of_product x y (wider x p) (wider y q) (product_fits x y p q)

pub halved_mixed : (x f g : ℤ) (b : ℕ) → FitsSigned w64 x → b < 2 ^ 64 → f ≡ to_z w64 (of_z w64 x) → g ≡ pos b →
    halved f g ≡ of_z w64 (int_shr (x *ℤ pos b) 64)
halved_mixed x f g b p q e d =
    ap (λ (a : ℤ). halved a g) (e ∙ to_z-of_z w64 x p)
    ∙ ap (λ (c : ℤ). halved x c) d
    ∙ upper_of_product x (pos b) (wider x p) (word_fits b q) (mixed_fits x b p q)

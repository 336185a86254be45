-- The numbers fit 64 bits, so their product fits 128, and its upper half 64.
use Rattle.std.proofs.Common.{◌∙◌, ℤ, ◌*ℤ◌, w64, of_z, ap}
use Rattle.std.specs.Int.{int_shr}
use Rattle.rv_exec.specs.Words as words
use Rattle.rv_exec.proofs.Products.{halved_signed, fits_w64}
use Rattle.rv_exec.proofs.words.multiply_high.Goals as goal

pub returns : goal.returns
returns c =
    let x = c.cast_signed.result in
    let y = c.cast_signed-2.result in
    c.cast_unsigned.ensures
    ∙ halved_signed x y c.from.result c.from-2.result (fits_w64 x c.cast_signed.type_inv) (fits_w64 y c.cast_signed-2.type_inv) c.from.ensures c.from-2.ensures
    ∙ ap (λ (a : ℤ). of_z w64 (int_shr (a *ℤ y) 64)) c.cast_signed.ensures
    ∙ ap (λ (b : ℤ). of_z w64 (int_shr (words.signed c.args.a *ℤ b) 64)) c.cast_signed-2.ensures

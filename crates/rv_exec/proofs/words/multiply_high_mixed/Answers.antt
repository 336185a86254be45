-- The numbers fit 64 bits and a word, so their product fits 128 bits, and its upper half 64.
use Rattle.std.proofs.Common.{◌∙◌, ℤ, pos, ◌*ℤ◌, w64, of_z, ap}
use Rattle.std.specs.Int.{int_shr}
use Rattle.rv_exec.proofs.Products.{halved_mixed, fits_w64}
use Rattle.rv_exec.proofs.words.multiply_high_mixed.Goals as goal

pub returns : goal.returns
returns c =
    let x = c.cast_signed.result in
    c.cast_unsigned.ensures
    ∙ halved_mixed x c.from.result c.from-2.result c.args.b (fits_w64 x c.cast_signed.type_inv) c.ranges.b.fits c.from.ensures c.from-2.ensures
    ∙ ap (λ (a : ℤ). of_z w64 (int_shr (a *ℤ pos c.args.b) 64)) c.cast_signed.ensures

use Rattle.std.proofs.Common.{◌≡◌, ◌*◌, is_some, true, refl, sym, ap, ◌∙◌, ℕ, Option}
use Rattle.elf_image.specs.File.{granule_of}
use Rattle.offline_audit.proofs.RaceLaw.{granule_found}
use Rattle.offline_audit.proofs.races.has_granule.Goals as goal

pub returns-then-is_some : goal.returns-then-is_some
returns-then-is_some c =
    let is : is_some (granule_of c.args.image.now (8 * c.loop-block.block)) ≡ true =
    sym (c.is_some.ensures ∙ ap (λ (o : Option ℕ). is_some o) c.granule_of.ensures) ∙ c.if-is_some.true in
    (λ t. granule_found (granule_of c.args.image.now) c.args.low c.args.high c.loop-block.block c.if-low-high.false c.loop-block.auto.block c.loop-block-test.true is, λ h. refl)

use Rattle.std.proofs.Common.{sym, ◌∙◌, subst}
use Rattle.elf_image.specs.Regions.{RisesFrom}
use Rattle.elf_image.proofs.Kept.{kept}
use Rattle.elf_image.proofs.image.Image.find.Goals as goal

pub find_region-requires : goal.find_region-requires
find_region-requires c =
    let k = kept c.args.self.now c.self.inside.bytes.now c.self.inside.entry c.self.inside.segments.items c.self.inside.regions.items c.self.inside.first_granules.items c.self.view_is c.self.invariant in
    subst (RisesFrom 0) (sym (c.as_slice.ensures.value ∙ k.regions_are)) k.order.rises

pub returns-clause-ordered : goal.returns-clause-ordered
returns-clause-ordered c =
    let k = kept c.args.self.now c.self.inside.bytes.now c.self.inside.entry c.self.inside.segments.items c.self.inside.regions.items c.self.inside.first_granules.items c.self.view_is c.self.invariant in
    k.order.rises

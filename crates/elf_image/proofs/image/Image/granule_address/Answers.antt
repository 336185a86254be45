use Rattle.std.proofs.Common.{◌∙◌, arith}
use Rattle.elf_image.proofs.Kept.{kept, region_is, low_address, home_from, granule_place, address_is}
use Rattle.elf_image.proofs.image.Image.granule_address.Goals as goal

pub overflow_add-result : goal.overflow_add-result
overflow_add-result c =
    let k = kept c.args.self.now c.self.inside.bytes.now c.self.inside.entry c.self.inside.segments.items c.self.inside.regions.items c.self.inside.first_granules.items c.self.view_is c.self.invariant in
    let home = home_from c.args.self.now c.as_slice.result.now c.args.granule c.home_of-index.result (c.as_slice.ensures.value ∙ k.regions_are) c.home_of-index.ensures in
    let value = address_is c.args.self.now c.args.granule c.home_of-index.result c.index-2.result.now c.index.result.now _ k.firsts_are home (region_is _ _ _ _ k.regions_are c.index.ensures) c.index-2.ensures in
    let low = low_address c.args.self.now _ _ k.order (granule_place c.args.self.now c.args.granule c.home_of-index.result k.order home).at in
    omega (arith, value, low)

pub returns : goal.returns
returns c =
    let k = kept c.args.self.now c.self.inside.bytes.now c.self.inside.entry c.self.inside.segments.items c.self.inside.regions.items c.self.inside.first_granules.items c.self.view_is c.self.invariant in
    let home = home_from c.args.self.now c.as_slice.result.now c.args.granule c.home_of-index.result (c.as_slice.ensures.value ∙ k.regions_are) c.home_of-index.ensures in
    address_is c.args.self.now c.args.granule c.home_of-index.result c.index-2.result.now c.index.result.now _ k.firsts_are home (region_is _ _ _ _ k.regions_are c.index.ensures) c.index-2.ensures

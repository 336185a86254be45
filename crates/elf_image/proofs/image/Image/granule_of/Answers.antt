use Rattle.std.proofs.Common.{arith}
use Rattle.elf_image.proofs.Kept.{kept, region_is, granule_some, granule_fits, granule_constant, granule_outside}
use Rattle.elf_image.proofs.image.Image.granule_of.Goals as goal

pub returns-in-None : goal.returns-in-None
returns-in-None c = granule_outside c.args.self.now c.args.address c.in-None.ensures.none

pub overflow_add-result : goal.overflow_add-result
overflow_add-result c =
    let k = kept c.args.self.now c.self.inside.bytes.now c.self.inside.entry c.self.inside.segments.items c.self.inside.regions.items c.self.inside.first_granules.items c.self.view_is c.self.invariant in
    let sum = granule_fits _ _ _ _ _ _ k.order c.in-Some.ensures.found k.firsts_are (region_is _ _ _ _ k.regions_are c.index-region.ensures) c.if-region.true c.index.ensures in
    omega (arith, sum)

pub overflow_cast-result : goal.overflow_cast-result
overflow_cast-result c =
    let k = kept c.args.self.now c.self.inside.bytes.now c.self.inside.entry c.self.inside.segments.items c.self.inside.regions.items c.self.inside.first_granules.items c.self.view_is c.self.invariant in
    let sum = granule_fits _ _ _ _ _ _ k.order c.in-Some.ensures.found k.firsts_are (region_is _ _ _ _ k.regions_are c.index-region.ensures) c.if-region.true c.index.ensures in
    omega (arith, sum)

pub returns-then-region : goal.returns-then-region
returns-then-region c =
    let k = kept c.args.self.now c.self.inside.bytes.now c.self.inside.entry c.self.inside.segments.items c.self.inside.regions.items c.self.inside.first_granules.items c.self.view_is c.self.invariant in
    granule_some _ _ _ _ _ _ k.order c.in-Some.ensures.found k.firsts_are (region_is _ _ _ _ k.regions_are c.index-region.ensures) c.if-region.true c.index.ensures

pub returns-else-region : goal.returns-else-region
returns-else-region c =
    let k = kept c.args.self.now c.self.inside.bytes.now c.self.inside.entry c.self.inside.segments.items c.self.inside.regions.items c.self.inside.first_granules.items c.self.view_is c.self.invariant in
    granule_constant _ _ _ _ k.order c.in-Some.ensures.found (region_is _ _ _ _ k.regions_are c.index-region.ensures) c.if-region.false

use Rattle.std.proofs.Common.{◌≡◌, ℕ, ◌%◌, sym, ◌∙◌, subst}
use Rattle.elf_image.specs.Regions.{IsAt}
use Rattle.elf_image.specs.File.{regions_of}
use Rattle.elf_image.proofs.Kept.{kept, home_from, granule_place, initial_is}
use Rattle.elf_image.proofs.image.Image.initial_word.Goals as goal

pub returns : goal.returns
returns c = c.long_at.ensures ∙ initial_is c.args.self.now c.args.granule c.granule_address.result c.granule_address.ensures

pub long_at-requires-clause-here : goal.long_at-requires-clause-here
long_at-requires-clause-here c =
    let k = kept c.args.self.now c.self.inside.bytes.now c.self.inside.entry c.self.inside.segments.items c.self.inside.regions.items c.self.inside.first_granules.items c.self.view_is c.self.invariant in
    let home = home_from c.args.self.now c.as_slice.result.now c.args.granule c.home_of-index.result (c.as_slice.ensures.value ∙ k.regions_are) c.home_of-index.ensures in
    let at = (granule_place c.args.self.now c.args.granule c.home_of-index.result k.order home).at in
    subst (λ (a : ℕ). IsAt (regions_of c.args.self.now) a c.home_of-index.result) (sym c.granule_address.ensures) at

pub long_at-requires-clause-aligned : goal.long_at-requires-clause-aligned
long_at-requires-clause-aligned c =
    let k = kept c.args.self.now c.self.inside.bytes.now c.self.inside.entry c.self.inside.segments.items c.self.inside.regions.items c.self.inside.first_granules.items c.self.view_is c.self.invariant in
    let home = home_from c.args.self.now c.as_slice.result.now c.args.granule c.home_of-index.result (c.as_slice.ensures.value ∙ k.regions_are) c.home_of-index.ensures in
    let whole = (granule_place c.args.self.now c.args.granule c.home_of-index.result k.order home).aligned in
    subst (λ (a : ℕ). a % 8 ≡ 0) (sym c.granule_address.ensures) whole

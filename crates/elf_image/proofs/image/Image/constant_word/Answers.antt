use Rattle.std.proofs.Common.{◌≡◌, ℕ, ◌*◌, ◌/◌, ap, ◌∙◌, subst, arith}
use Rattle.elf_image.specs.Bytes.{long_of}
use Rattle.elf_image.specs.Regions.{IsAt, block}
use Rattle.elf_image.specs.File.{regions_of, byte_at}
use Rattle.elf_image.proofs.Kept.{kept, region_is, block_at, constant_some, constant_writable, constant_outside}
use Rattle.elf_image.proofs.image.Image.constant_word.Goals as goal

pub returns-in-None : goal.returns-in-None
returns-in-None c = constant_outside c.args.self.now c.args.address c.in-None.ensures.none

pub long_at-requires-clause-here : goal.long_at-requires-clause-here
long_at-requires-clause-here c =
    let k = kept c.args.self.now c.self.inside.bytes.now c.self.inside.entry c.self.inside.segments.items c.self.inside.regions.items c.self.inside.first_granules.items c.self.view_is c.self.invariant in
    let at = block_at c.args.self.now c.args.address c.in-Some.index k.order c.in-Some.ensures.found in
    subst (λ (a : ℕ). IsAt (regions_of c.args.self.now) a c.in-Some.index) (omega arith) at

pub returns-then-index : goal.returns-then-index
returns-then-index c =
    let k = kept c.args.self.now c.self.inside.bytes.now c.self.inside.entry c.self.inside.segments.items c.self.inside.regions.items c.self.inside.first_granules.items c.self.view_is c.self.invariant in
    constant_writable _ _ _ _ k.order c.in-Some.ensures.found (region_is _ _ _ _ k.regions_are c.index.ensures) c.if-index.true

pub returns-else-index : goal.returns-else-index
returns-else-index c =
    let k = kept c.args.self.now c.self.inside.bytes.now c.self.inside.entry c.self.inside.segments.items c.self.inside.regions.items c.self.inside.first_granules.items c.self.view_is c.self.invariant in
    let same : c.args.address / 8 * 8 ≡ block c.args.address = omega arith in
    constant_some _ _ _ _ _ k.order c.in-Some.ensures.found (region_is _ _ _ _ k.regions_are c.index.ensures) c.if-index.false
    (c.long_at.ensures ∙ ap (λ (a : ℕ). long_of (byte_at c.args.self.now) a) same)

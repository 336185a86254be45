use Rattle.std.proofs.Common.{◌≡◌, ℕ, List, length, sym, ap, ◌∙◌, subst, arith}
use Rattle.elf_image.specs.Bytes.{long_of}
use Rattle.elf_image.specs.Headers.{byte_of}
use Rattle.elf_image.proofs.Kept.{kept, count_same, segment_sound, segment_is, low_address, long_near}
use Rattle.elf_image.proofs.image.Image.long_at.Goals as goal

pub index-requires : goal.index-requires
index-requires c =
    let k = kept c.args.self.now c.self.inside.bytes.now c.self.inside.entry c.self.inside.segments.items c.self.inside.regions.items c.self.inside.first_granules.items c.self.view_is c.self.invariant in
    omega (arith, c.requires.here.in_range, count_same c.args.self.now, ap length k.segments_are)

pub long_of-requires-clause-sound : goal.long_of-requires-clause-sound
long_of-requires-clause-sound c =
    let k = kept c.args.self.now c.self.inside.bytes.now c.self.inside.entry c.self.inside.segments.items c.self.inside.regions.items c.self.inside.first_granules.items c.self.view_is c.self.invariant in
    segment_sound _ _ _ _ _ _ c.args.index c.index.result.now k c.requires.here.in_range c.index.ensures

pub long_of-requires-clause-low : goal.long_of-requires-clause-low
long_of-requires-clause-low c =
    let k = kept c.args.self.now c.self.inside.bytes.now c.self.inside.entry c.self.inside.segments.items c.self.inside.regions.items c.self.inside.first_granules.items c.self.view_is c.self.invariant in
    low_address c.args.self.now c.args.address c.args.index k.order c.requires.here

pub returns : goal.returns
returns c =
    let k = kept c.args.self.now c.self.inside.bytes.now c.self.inside.entry c.self.inside.segments.items c.self.inside.regions.items c.self.inside.first_granules.items c.self.view_is c.self.invariant in
    let read = subst (λ (b : List ℕ). c.long_of.result ≡ long_of (byte_of b c.index.result.now) c.args.address) k.bytes_are c.long_of.ensures in
    read ∙ sym (long_near c.args.self.now c.args.address c.args.index c.index.result.now k.order c.requires.here (segment_is _ _ _ _ k.segments_are c.index.ensures) c.requires.aligned)

use Rattle.std.proofs.Common.{◌≡◌, ℕ, List, length, ap, subst, arith}
use Rattle.elf_image.specs.Bytes.{word_of}
use Rattle.elf_image.specs.Headers.{byte_of}
use Rattle.elf_image.proofs.Kept.{kept, count_same, segment_sound, low_address, fetch_some, fetch_misaligned, fetch_data, segment_is, region_is}
use Rattle.elf_image.proofs.image.Image.fetch_at.Goals as goal
use Rattle.elf_image.proofs.image.Image.fetch_at.Goals.{else-pc-eq0-via-then-pc-eq0+else-index, else-pc-eq0-via-else-pc-eq0}

pub index-requires-then-index : goal.index-requires-then-index
index-requires-then-index c =
    let k = kept c.args.self.now c.self.inside.bytes.now c.self.inside.entry c.self.inside.segments.items c.self.inside.regions.items c.self.inside.first_granules.items c.self.view_is c.self.invariant in
    omega (arith, c.requires.in_range, count_same c.args.self.now, ap length k.segments_are)

pub word_of-requires-clause-sound : goal.word_of-requires-clause-sound
word_of-requires-clause-sound c =
    let k = kept c.args.self.now c.self.inside.bytes.now c.self.inside.entry c.self.inside.segments.items c.self.inside.regions.items c.self.inside.first_granules.items c.self.view_is c.self.invariant in
    segment_sound _ _ _ _ _ _ c.args.index c.index-then-index.result.now k c.requires.in_range c.index-then-index.ensures

pub word_of-requires-clause-low : goal.word_of-requires-clause-low
word_of-requires-clause-low c =
    let k = kept c.args.self.now c.self.inside.bytes.now c.self.inside.entry c.self.inside.segments.items c.self.inside.regions.items c.self.inside.first_granules.items c.self.view_is c.self.invariant in
    omega (arith, low_address c.args.self.now c.args.pc c.args.index k.order c.requires)

pub returns-then-index : goal.returns-then-index
returns-then-index c =
    let k = kept c.args.self.now c.self.inside.bytes.now c.self.inside.entry c.self.inside.segments.items c.self.inside.regions.items c.self.inside.first_granules.items c.self.view_is c.self.invariant in
    fetch_some c.args.self.now c.args.pc c.args.index c.word_of.result c.index.result.now c.index-then-index.result.now k.order c.requires
    c.if-pc-eq0.true (region_is _ _ _ _ k.regions_are c.index.ensures) c.if-index.true (segment_is _ _ _ _ k.segments_are c.index-then-index.ensures)
    (subst (λ (b : List ℕ). c.word_of.result ≡ word_of (byte_of b c.index-then-index.result.now) c.args.pc) k.bytes_are c.word_of.ensures)

pub returns-else-pc-eq0 : goal.returns-else-pc-eq0
returns-else-pc-eq0 c =
    let k = kept c.args.self.now c.self.inside.bytes.now c.self.inside.entry c.self.inside.segments.items c.self.inside.regions.items c.self.inside.first_granules.items c.self.view_is c.self.invariant in
    elim c.else-pc-eq0.branch [
      | else-pc-eq0-via-then-pc-eq0+else-index w ↦ fetch_data c.args.self.now c.args.pc c.args.index w.index.result.now k.order c.requires w.if-pc-eq0.true (region_is _ _ _ _ k.regions_are w.index.ensures) w.if-index.false
      | else-pc-eq0-via-else-pc-eq0 w ↦ fetch_misaligned c.args.self.now c.args.pc w.if-pc-eq0.false
    ]

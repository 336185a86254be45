use Rattle.std.proofs.Common.{◌≡◌, ◌<◌, ◌∙◌, ℕ, List, length, ap, sym, subst, arith}
use Rattle.std.proofs.lemmas.List.{get_or-map}
use Rattle.elf_image.specs.Headers.{file_end, IsSound}
use Rattle.elf_image.specs.File.{segments_of, regions_of}
use Rattle.elf_image.proofs.Kept.{kept, count_same, segment_sound, segment_is}
use Rattle.elf_image.proofs.image.Image.file_end.Goals as goal

pub overflow_add-result : goal.overflow_add-result
overflow_add-result c =
    let k = kept c.args.self.now c.self.inside.bytes.now c.self.inside.entry c.self.inside.segments.items c.self.inside.regions.items c.self.inside.first_granules.items c.self.view_is c.self.invariant in
    let inside : c.args.region < length (regions_of c.args.self.now) = omega (arith, c.if-index-len.false, count_same c.args.self.now, ap length k.segments_are) in
    let sound = segment_sound _ _ _ _ _ _ c.args.region c.index-segment.result.now k inside c.index-segment.ensures in
    omega (arith, sound.sizes, sound.low)

pub returns-clause-value : goal.returns-clause-value
returns-clause-value c =
    let k = kept c.args.self.now c.self.inside.bytes.now c.self.inside.entry c.self.inside.segments.items c.self.inside.regions.items c.self.inside.first_granules.items c.self.view_is c.self.invariant in
    let inside : c.args.region < length (regions_of c.args.self.now) = omega (arith, c.if-index-len.false, count_same c.args.self.now, ap length k.segments_are) in
    ap file_end (segment_is _ _ _ _ k.segments_are c.index-segment.ensures)
    ∙ sym (get_or-map file_end (segments_of c.args.self.now) c.args.region c.index-segment.result.now 0 (omega (arith, inside, count_same c.args.self.now)))

pub returns-clause-low : goal.returns-clause-low
returns-clause-low c =
    let k = kept c.args.self.now c.self.inside.bytes.now c.self.inside.entry c.self.inside.segments.items c.self.inside.regions.items c.self.inside.first_granules.items c.self.view_is c.self.invariant in
    let inside : c.args.region < length (regions_of c.args.self.now) = omega (arith, c.if-index-len.false, count_same c.args.self.now, ap length k.segments_are) in
    let sound = segment_sound _ _ _ _ _ _ c.args.region c.index-segment.result.now k inside c.index-segment.ensures in
    omega (arith, sound.sizes, sound.low)

use Rattle.elf_image.specs.File.{granule_of}
use Rattle.offline_audit.proofs.RaceLaw.{conflict_from, not_both}
use Rattle.offline_audit.proofs.races.do_conflict.Goals as goal

pub returns : goal.returns
returns c =
    let one = c.args.one.now in
    let other = c.args.other.now in
    let has = rw (c.max.ensures, c.min.ensures) at c.has_granule.ensures in
    let same =
    conflict_from (granule_of c.args.image.now) one other c.if-one-other.false (not_both one.read other.read c.if-one-other-2.false)
    (not_both one.atomic other.atomic c.if-one-other-3.false) in
    (λ t. same.0 (has.0 t), λ k. has.1 (same.1 k))

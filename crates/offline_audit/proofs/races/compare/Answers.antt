use Rattle.std.proofs.Common.{◌≡◌, ◌⊎◌, ◌↔◌, Contains}
use Rattle.std.proofs.lemmas.Result.{on_ok_weaker}
use Rattle.elf_image.specs.File.{granule_of}
use Rattle.report_text.specs.declared.pair.Pair.{Pair}
use Rattle.run_laws.specs.Moments.{moments, items}
use Rattle.offline_audit.specs.Pairs.{pair_of}
use Rattle.offline_audit.proofs.RaceLaw.{one_more}
use Rattle.offline_audit.proofs.races.compare.Goals as goal

pub returns-clause-settled : goal.returns-clause-settled
returns-clause-settled c =
    let one = c.args.one.now in
    let other = c.args.other.now in
    let old = c.args.found.now.items in
    let new = c.add.new.pairs.items in
    let conflict = c.do_conflict.ensures.0 c.if-not-do_conflict.false in
    let apart = rw (c.as_slice-2.ensures, c.as_slice-3.ensures) at c.if-not-are_apart.ensures.apart in
    on_ok_weaker c.add.result
    (λ (added : (x : Pair) → Contains new x ↔ (Contains old x ⊎ (x ≡ pair_of one.kind.place other.kind.place))) entries order p q.
    one_more (granule_of c.args.image.now) entries one other old new added conflict (apart (items (moments entries)) entries order p q))
    (rw c.paired-pair.ensures at c.add.ensures.added)

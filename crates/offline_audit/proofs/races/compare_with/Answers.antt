use Rattle.std.proofs.Common.{◌≡◌, ℕ, List, length, sym, subst, arith}
use Rattle.elf_image.specs.File.{granule_of}
use Rattle.run_laws.specs.Moments.{moments, items}
use Rattle.offline_audit.specs.declared.group.Group.{Group}
use Rattle.offline_audit.specs.Chains.{IsChain}
use Rattle.offline_audit.specs.Groups.{AreCompared}
use Rattle.offline_audit.proofs.RaceLaw.{compared_more, rest_past}
use Rattle.offline_audit.proofs.races.compare_with.Goals as goal

pub returns-then-one-other-clause-settled : goal.returns-then-one-other-clause-settled
returns-then-one-other-clause-settled c = λ entries order p q.
    rest_past (granule_of c.args.image.now) entries c.args.one.now c.args.later.now c.loop-other.other-index c.other-item.result c.args.found.now.items
    c.loop-other.found.items c.requires.by_address c.loop-other-test.true c.other-item.is c.if-one-other.true (c.loop-other.invariant.1 entries order p q)

pub loop-other-preserved : goal.loop-other-preserved
loop-other-preserved c =
    let later : List Group = c.args.later.now in
    let n = c.loop-other.other-index in
    let other : Group = c.other-item.result in (
      c.in_ok-compare.ensures.rising,
      λ entries order p q.
          let chain : IsChain (items (moments entries)) entries other.names = subst (λ (g : Group). IsChain (items (moments entries)) entries g.names) (sym c.other-item.is) (q n other c.loop-other-test.true) in
          compared_more (granule_of c.args.image.now) entries c.args.one.now later n other c.args.found.now.items c.loop-other.found.items
          c.compare.new.found.items c.loop-other-test.true c.other-item.is (c.in_ok-compare.ensures.settled entries order p chain) (c.loop-other.invariant.1 entries order p q),
    )

pub returns-clause-settled : goal.returns-clause-settled
returns-clause-settled c = λ entries order p q.
    let later : List Group = c.args.later.now in
    let full = c.loop-other-test.false in
    let most = c.loop-other.auto.other-index-end in
    let same : c.loop-other.other-index ≡ length later = omega arith in
    subst (λ (n : ℕ). AreCompared (granule_of c.args.image.now) entries c.args.one.now later n c.args.found.now.items c.loop-other.found.items) same
    (c.loop-other.invariant.1 entries order p q)

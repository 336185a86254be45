use Rattle.std.proofs.Common.{◌≡◌, ◌+◌, ◌-◌, ℕ, List, length, take, drop, sym, subst, arith}
use Rattle.std.proofs.lemmas.List.Elements.{All-drop}
use Rattle.elf_image.specs.File.{granule_of}
use Rattle.run_laws.specs.Moments.{moments, items}
use Rattle.offline_audit.specs.declared.group.Group.{Group}
use Rattle.offline_audit.specs.Chains.{IsChain}
use Rattle.offline_audit.specs.Groups.{AreChains, AreCompared, AreFound}
use Rattle.offline_audit.proofs.RaceLaw.{found_more, later_are, later_rise}
use Rattle.offline_audit.proofs.races.compare_all.Goals as goal

pub compare_with-requires-clause-by_address : goal.compare_with-requires-clause-by_address
compare_with-requires-clause-by_address c = later_rise c.args.groups.now (c.loop-n.n + 1) c.requires

pub loop-n-preserved : goal.loop-n-preserved
loop-n-preserved c =
    let groups : List Group = c.args.groups.now in
    let n = c.loop-n.n in
    let one : Group = c.index-groups-n.result in
    let old = c.loop-n.found.items in
    let new = c.compare_with.new.found.items in
    let are = later_are groups (n + 1) in (
      c.in_ok-compare_with.ensures.rising,
      λ entries order chains.
          let chain : IsChain (items (moments entries)) entries one.names = subst (λ (g : Group). IsChain (items (moments entries)) entries g.names) (sym c.index-groups-n.is) (chains n one c.loop-n-test.true) in
          let later : AreChains (items (moments entries)) entries (take (length groups - (n + 1)) (drop (n + 1) groups)) =
          subst (AreChains (items (moments entries)) entries) (sym are) (All-drop (λ (g : Group). IsChain (items (moments entries)) entries g.names) (n + 1) groups chains) in
          let compared = c.in_ok-compare_with.ensures.settled entries order chain later in
          found_more (granule_of c.args.image.now) entries groups n one old new c.loop-n-test.true c.index-groups-n.is
          (subst (λ (gs : List Group). AreCompared (granule_of c.args.image.now) entries one gs (length gs) old new) are compared)
          (c.loop-n.invariant.1 entries order chains),
    )

pub returns-clause-found : goal.returns-clause-found
returns-clause-found c = λ entries order chains.
    let groups : List Group = c.args.groups.now in
    let full = c.loop-n-test.false in
    let most = c.loop-n.auto.n-end in
    let same : c.loop-n.n ≡ length groups = omega arith in
    subst (λ (n : ℕ). AreFound (granule_of c.args.image.now) entries groups n c.loop-n.found.items) same (c.loop-n.invariant.1 entries order chains)

use Rattle.std.proofs.Common.{◌≡◌, ◌+◌, ◌<◌, List, ◌∷◌, [], ◌++◌, length, take, get_or, arith, sym, subst}
use Rattle.std.proofs.lemmas.List.{take_more, get_or_read}
use Rattle.graph_search.specs.declared.graph.Link.{Link}
use Rattle.graph_search.specs.Searches.{Spreads, at}
use Rattle.graph_search.proofs.SearchLaws.{spreads-there, spreads-new}
use Rattle.graph_search.proofs.search.spread.Goals as goal
use Rattle.graph_search.proofs.search.spread.Goals.{then-index-eq0+in_ok-push, else-index-eq0}

pub loop-link-preserved : goal.loop-link-preserved
loop-link-preserved c =
    let links = c.args.links.now in
    let k = c.loop-link.link-index in
    let nothing : Link = record { from = 0; to = 0 } in
    let link : Link = get_or links k nothing in
    let inside : k < length links = omega arith in
    let ds = c.loop-link.distances.items in
    let size = c.loop-link.invariant.size in
    let long : link.to < length ds = omega (arith, c.requires.within k nothing inside, c.args.distances.now.ok.0) in
    let has : c.index.result.now ≡ at ds link.to = get_or_read ds link.to c.index.result.now long c.index.ensures 0 in
    let e : take (k + 1) links ≡ take k links ++ link ∷ [] = take_more links k nothing inside in
    subst (λ (ls : List Link). Spreads ls c.args.next c.args.distances.now.items c.args.queue.now.items c.if-index-eq0.distances.items
    c.if-index-eq0.queue.items) (sym e)
    (elim c.if-index-eq0.branch [
      | then-index-eq0+in_ok-push w ↦
          rw (w.distances-is, w.queue-is, w.in_ok-push.ensures.items)
          (spreads-new (take k links) link c.args.next c.args.distances.now.items c.args.queue.now.items ds c.loop-link.queue.items c.loop-link.invariant
          c.requires.positive (omega (arith, w.if-index-eq0.true)) long)
      | else-index-eq0 w ↦
          rw (w.distances-is, w.queue-is)
          (spreads-there (take k links) link c.args.next c.args.distances.now.items c.args.queue.now.items ds c.loop-link.queue.items c.loop-link.invariant
          (omega (arith, w.if-index-eq0.false)))
    ])

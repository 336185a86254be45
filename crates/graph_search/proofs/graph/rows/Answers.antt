use Rattle.std.proofs.Common.{◌≡◌, ◌+◌, ◌<◌, List, ◌∷◌, [], ◌++◌, length, take, set, get_or, arith, sym, subst}
use Rattle.std.proofs.lemmas.List.{take_more}
use Rattle.graph_search.specs.declared.graph.Link.{Link}
use Rattle.graph_search.specs.Graphs.{AreRows}
use Rattle.graph_search.proofs.RowLaws.{rows-more}
use Rattle.graph_search.proofs.graph.rows.Goals as goal

pub loop-link-preserved : goal.loop-link-preserved
loop-link-preserved c =
    let links = c.args.links.now in
    let k = c.loop-link.link-index in
    let nothing : Link = record { from = 0; to = 0 } in
    let link : Link = get_or links k nothing in
    let inside : k < length links = omega arith in
    let e : take (k + 1) links ≡ take k links ++ link ∷ [] = take_more links k nothing inside in
    subst (λ (ls : List Link). AreRows c.args.nodes ls (set c.loop-link.rows.items link.from c.push.new.self)) (sym e)
    (rows-more c.args.nodes (take k links) c.loop-link.rows.items link c.index_mut.result.now c.push.new.self c.loop-link.invariant
    (c.requires.within k nothing inside).from (sym c.index_mut.ensures.value) c.in_ok-push.ensures.items)

use Rattle.std.proofs.Common.{List, ◌∷◌, [], ◌++◌, take, get_or, sym, subst}
use Rattle.std.proofs.lemmas.List.{take_more}
use Rattle.graph_search.specs.declared.graph.Link.{Link}
use Rattle.lock_order.specs.declared.edge.Edge.{Edge}
use Rattle.lock_order.specs.Knots.{AreLinks}
use Rattle.lock_order.proofs.NodeLaws.{links-push}
use Rattle.lock_order.proofs.knot.links.Goals as goal

pub loop-edge-preserved : goal.loop-edge-preserved
loop-edge-preserved c =
    let es = c.args.edges.now in
    let k = c.loop-edge.edge-index in
    let nothing : Edge = record { from = 0; to = 0; tid = 0 } in
    let e : Edge = get_or es k nothing in
    subst (λ (ls : List Edge). AreLinks ls c.args.nodes.now c.push.new.self.items) (sym (take_more es k nothing c.loop-edge-test.true))
    (subst (λ (ls : List Link). AreLinks (take k es ++ e ∷ []) c.args.nodes.now ls) (sym c.in_ok-push.ensures.items)
    (links-push (take k es) c.args.nodes.now c.loop-edge.links.items e (record { from = c.number-from.result; to = c.number-to.result }) c.loop-edge.invariant
    (record { from = c.number-from.ensures; to = c.number-to.ensures })))

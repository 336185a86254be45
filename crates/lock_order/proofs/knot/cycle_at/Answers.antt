use Rattle.std.proofs.Common.{◌≡◌, ℕ, suc, ◌-◌, List, arith, sym, subst}
use Rattle.graph_search.specs.Searches.{at}
use Rattle.lock_order.specs.declared.edge.Edge.{Edge}
use Rattle.lock_order.proofs.KnotLaws.{Goes, goes-has, goes-more, goes-end}
use Rattle.lock_order.proofs.knot.cycle_at.Goals as goal

pub next_edge-edge-requires-clause-has : goal.next_edge-edge-requires-clause-has
next_edge-edge-requires-clause-has c =
    let es = c.args.edges.now in
    let nodes = c.args.nodes.now in
    let left = c.args.left.now in
    let n = c.args.node in
    let one_more : c.loop-more.more ≡ suc (c.loop-more.more - 1) = omega arith in
    goes-has es nodes left (at nodes n) (at left n) c.loop-more.from (c.loop-more.more - 1) c.loop-more.cycle c.requires.left
    (subst (λ (m : ℕ). Goes es nodes left (at nodes n) (at left n) c.loop-more.from m c.loop-more.cycle) one_more c.loop-more.invariant)

pub loop-more-preserved : goal.loop-more-preserved
loop-more-preserved c =
    let es = c.args.edges.now in
    let nodes = c.args.nodes.now in
    let left = c.args.left.now in
    let n = c.args.node in
    let one_more : c.loop-more.more ≡ suc (c.loop-more.more - 1) = omega arith in
    subst (λ (p : List Edge). Goes es nodes left (at nodes n) (at left n) c.next_edge-edge.result.to (c.loop-more.more - 1) p) (sym c.in_ok-push.ensures.ok)
    (goes-more es nodes left (at nodes n) (at left n) c.loop-more.from (c.loop-more.more - 1) c.next_edge-edge.result c.loop-more.cycle c.requires.nodes
    c.requires.left c.next_edge-edge.ensures
    (subst (λ (m : ℕ). Goes es nodes left (at nodes n) (at left n) c.loop-more.from m c.loop-more.cycle) one_more c.loop-more.invariant))

pub returns : goal.returns
returns c =
    let es = c.args.edges.now in
    let nodes = c.args.nodes.now in
    let left = c.args.left.now in
    let n = c.args.node in
    let none : c.loop-more.more ≡ 0 = omega arith in
    goes-end es nodes left n c.loop-more.from c.loop-more.cycle c.requires.node c.requires.around c.requires.left
    (subst (λ (m : ℕ). Goes es nodes left (at nodes n) (at left n) c.loop-more.from m c.loop-more.cycle) none c.loop-more.invariant)

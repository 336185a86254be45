use Rattle.std.proofs.Common.{◌-◌, arith}
use Rattle.graph_search.proofs.GraphLaws.{starts_rise}
use Rattle.graph_search.proofs.DescentLaws.{descent-begin, descent-end}
use Rattle.graph_search.proofs.descent.finished.Goals as goal

pub loop-root-init : goal.loop-root-init
loop-root-init c =
    let g = c.args.graph.now in
    let nodes = g.starts.len - 1 in
    let seen = c.in_ok-seen.ensures.items_if_clones_equal (λ y e. e) in
    let next = c.in_ok-next.ensures.items_if_clones_equal (λ x y e. e) in
    record {
      descent = rw (seen, next, c.deref.ensures.value, c.new-done.ensures.items)
          (descent-begin nodes (c.len-nodes.result - 1) g.links.items g.starts.items c.requires.graph.starts (omega (arith, c.len-nodes.ensures))
          (λ v l. starts_rise nodes v g.links.items g.starts.items c.requires.graph.starts l));
      before = λ v l. absurd (omega arith);
    }

pub returns : goal.returns
returns c =
    let g = c.args.graph.now in
    let d = c.loop-root.invariant.descent in
    descent-end (g.starts.len - 1) g.links.items g.starts.items c.loop-root.seen.items c.loop-root.next.items c.loop-root.done.items d
    (omega (arith, d.size, g.starts.ok.0)) (λ v l. c.loop-root.invariant.before v (omega (arith, c.len-nodes.ensures)))

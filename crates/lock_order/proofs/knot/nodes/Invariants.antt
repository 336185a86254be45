use Rattle.std.proofs.Common.{take}
use Rattle.std.specs.List.{Contains}
use Rattle.lock_order.specs.declared.edge.Edge.{Edge}
use Rattle.lock_order.proofs.knot.nodes.Given as goal

abbrev pub invariant-loop-edge : goal.invariant-loop-edge
invariant-loop-edge l = record {
  from : (e : Edge) → Contains (take l.edge-index l.edges) e → Contains l.nodes.items e.from;
  to : (e : Edge) → Contains (take l.edge-index l.edges) e → Contains l.nodes.items e.to;
}

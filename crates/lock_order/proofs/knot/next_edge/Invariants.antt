use Rattle.std.proofs.Common.{◌≡◌, take}
use Rattle.std.specs.List.{Contains}
use Rattle.lock_order.specs.declared.edge.Edge.{Edge}
use Rattle.lock_order.specs.Knots.{IsNear}
use Rattle.lock_order.proofs.knot.next_edge.Given as goal

-- none of the edges before leads on
abbrev pub invariant-loop-edge : goal.invariant-loop-edge
invariant-loop-edge l = (e : Edge) → Contains (take l.edge-index l.edges) e → e.from ≡ l.from → IsNear l.nodes l.left l.target l.more e → ⊥

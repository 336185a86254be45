use Rattle.std.proofs.Common.{take}
use Rattle.lock_order.specs.Knots.{AreLinks}
use Rattle.lock_order.proofs.knot.links.Given as goal

abbrev pub invariant-loop-edge : goal.invariant-loop-edge
invariant-loop-edge l = AreLinks (take l.edge-index l.edges) l.nodes l.links.items

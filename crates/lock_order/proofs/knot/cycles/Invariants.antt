use Rattle.lock_order.specs.Knots.{KnowsKnots}
use Rattle.lock_order.proofs.knot.cycles.Given as goal

abbrev pub invariant-loop-node : goal.invariant-loop-node
invariant-loop-node l = KnowsKnots l.edges l.nodes.items l.knots.items l.node l.waits.items l.cycles

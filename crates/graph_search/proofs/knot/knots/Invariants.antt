use Rattle.graph_search.specs.Gatherings.{KnowsKnots}
use Rattle.graph_search.proofs.knot.knots.Given as goal

abbrev pub invariant-loop-index : goal.invariant-loop-index
invariant-loop-index l = KnowsKnots l.graph.links.items l.nodes l.done.items l.index l.placed.items l.knots.items

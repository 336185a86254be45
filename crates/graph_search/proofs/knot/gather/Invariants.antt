use Rattle.std.proofs.Common.{◌+◌, length, map}
use Rattle.graph_search.specs.Graphs.{turn}
use Rattle.graph_search.specs.Descents.{unmarked}
use Rattle.graph_search.specs.Gatherings.{Gathers}
use Rattle.graph_search.proofs.knot.gather.Given as goal

abbrev pub invariant-loop-node : goal.invariant-loop-node
invariant-loop-node l = Gathers (map turn l.back.links.items) l.root l.fn.placed.items l.fn.knots.items l.placed.items l.knots.items l.ahead.items

abbrev pub decreases-loop-node : goal.decreases-loop-node
decreases-loop-node l = unmarked l.placed.items + length l.ahead.items

use Rattle.std.proofs.Common.{[]}
use Rattle.graph_search.specs.Graphs.{AreRows}
use Rattle.graph_search.proofs.graph.no_rows.Given as goal

abbrev pub invariant-loop-node : goal.invariant-loop-node
invariant-loop-node l = AreRows l._node [] l.rows.items

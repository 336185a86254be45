use Rattle.std.proofs.Common.{take}
use Rattle.graph_search.specs.Graphs.{AreRows}
use Rattle.graph_search.proofs.graph.rows.Given as goal

abbrev pub invariant-loop-link : goal.invariant-loop-link
invariant-loop-link l = AreRows l.nodes (take l.link-index l.links) l.rows.items

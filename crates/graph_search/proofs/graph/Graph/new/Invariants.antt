use Rattle.std.proofs.Common.{◌≡◌, take}
use Rattle.graph_search.specs.Graphs.{row_links}
use Rattle.graph_search.proofs.RowLaws.{AreFirst}
use Rattle.graph_search.proofs.graph.Graph.new.Given as goal

abbrev pub invariant-loop-row : goal.invariant-loop-row
invariant-loop-row l = record {
  first : AreFirst l.row-index l.links.items l.starts.items;
  is : l.links.items ≡ row_links (take l.row-index l.row-items);
}

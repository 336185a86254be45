use Rattle.std.proofs.Common.{◌≡◌, ◌+◌, length}
use Rattle.graph_search.specs.Searches.{Searches}
use Rattle.graph_search.proofs.search.distances.Given as goal

abbrev pub invariant-loop-head : goal.invariant-loop-head
invariant-loop-head l = record {
  search : Searches l.graph.links.items l.from l.head l.distances.items l.queue.items;
  size : length l.distances.items + 1 ≡ length l.graph.starts.items;
}

use Rattle.std.proofs.Common.{take}
use Rattle.graph_search.specs.Searches.{Spreads}
use Rattle.graph_search.proofs.search.spread.Given as goal

abbrev pub invariant-loop-link : goal.invariant-loop-link
invariant-loop-link l =
    Spreads (take l.link-index l.links) l.next l.initial.distances.items l.initial.queue.items l.distances.items l.queue.items

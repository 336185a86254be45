use Rattle.graph_search.specs.Searches.{at}
use Rattle.lock_order.proofs.KnotLaws.{Goes}
use Rattle.lock_order.proofs.knot.cycle_at.Given as goal

abbrev pub invariant-loop-more : goal.invariant-loop-more
invariant-loop-more l = Goes l.edges l.nodes l.left (at l.nodes l.node) (at l.left l.node) l.from l.more l.cycle

use Rattle.std.proofs.Common.{take}
use Rattle.run_laws.specs.Moments.{moments}
use Rattle.lock_order.specs.Found.{Follows}
use Rattle.lock_order.proofs.edge.edges.Given as goal

abbrev pub invariant-loop-entry : goal.invariant-loop-entry
invariant-loop-entry l = Follows (moments (take l.entry-index l.history.entries)) l.held.items l.found

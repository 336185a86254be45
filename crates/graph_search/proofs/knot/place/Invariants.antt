use Rattle.std.proofs.Common.{take}
use Rattle.graph_search.specs.Gatherings.{Places}
use Rattle.graph_search.proofs.knot.place.Given as goal

abbrev pub invariant-loop-link : goal.invariant-loop-link
invariant-loop-link l =
    Places (take l.link-index l.links) l.root l.initial.placed.items l.initial.knots.items l.initial.ahead.items l.placed.items l.knots.items l.ahead.items

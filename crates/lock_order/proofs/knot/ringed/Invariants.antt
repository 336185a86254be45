use Rattle.std.proofs.Common.{take}
use Rattle.lock_order.specs.Knots.{AreRinged}
use Rattle.lock_order.proofs.knot.ringed.Given as goal

abbrev pub invariant-loop-link : goal.invariant-loop-link
invariant-loop-link l = AreRinged (take l.link-index l.links) l.knots l.ringed.items

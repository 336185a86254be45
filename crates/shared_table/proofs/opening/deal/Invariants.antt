use Rattle.shared_table.specs.Opening.{AreDealt}
use Rattle.shared_table.proofs.opening.deal.Given as goal

abbrev pub invariant-loop-granule : goal.invariant-loop-granule
invariant-loop-granule l = AreDealt l.image l.limits l.granule l.stripes.items l.places.items

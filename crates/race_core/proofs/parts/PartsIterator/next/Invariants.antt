use Rattle.std.proofs.Common.{◌≡◌, ◌-◌}
use Rattle.race_core.specs.Parts.{left_of}
use Rattle.race_core.proofs.parts.PartsIterator.next.Given as goal

abbrev pub invariant-loop-self : goal.invariant-loop-self
invariant-loop-self l = left_of l.self ≡ left_of l.initial.self

abbrev pub decreases-loop-self : goal.decreases-loop-self
decreases-loop-self l = l.self.end - l.self.next

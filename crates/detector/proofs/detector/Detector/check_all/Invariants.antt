use Rattle.std.proofs.Common.{length}
use Rattle.race_core.specs.Parts.{left_of}
use Rattle.detector.specs.Checking.{Half}
use Rattle.detector.proofs.detector.Detector.check_all.Given as goal

abbrev pub invariant-parts : goal.invariant-parts
invariant-parts l = Half l.image l.initial.self l.self l.tid l.place l.event l.initial.checks l.checks (left_of l.parts) l.raced

abbrev pub decreases-parts : goal.decreases-parts
decreases-parts l = length (left_of l.parts)

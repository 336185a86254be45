use Rattle.std.proofs.Common.{rules, refl}
use Rattle.detector.proofs.FirstLaws.{stands_first}
use Rattle.detector.proofs.detector.Detector.new.Goals as goal

pub returns-clause-stands : goal.returns-clause-stands
returns-clause-stands c = stands_first _ _ _ c.requires.watcher refl refl (search rules) (search rules) (search rules) (search rules) (search rules) (search rules)

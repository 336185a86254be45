use Rattle.std.proofs.Common.{◌≡◌, length}
use Rattle.std.specs.Vec.Iter.{into_iter_items, into_iter_len}
use Rattle.report_text.specs.Offers.{is_met}
use Rattle.detector.proofs.ToldLaws.{Telling}
use Rattle.detector.proofs.detector.Detector.tell.Given as goal

abbrev pub invariant-loop-candidate : goal.invariant-loop-candidate
invariant-loop-candidate g l =
    Telling (is_met (g.S.Suppressions.rule_met l.fn.reporter.rules)) l.fn.image l.fn.self l.self l.fn.reporter.kept l.reporter.kept l.yielded (into_iter_items l.candidate-iterator)
    × (into_iter_len l.candidate-iterator ≡ length (into_iter_items l.candidate-iterator))
    × (l.reporter.rules ≡ l.fn.reporter.rules)

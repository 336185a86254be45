use Rattle.std.proofs.Common.{◌≡◌, length}
use Rattle.std.specs.Vec.Iter.{into_iter_items, into_iter_len}
use Rattle.part_races.specs.Sorting.{awaited_in}
use Rattle.report_text.specs.Offers.{is_met}
use Rattle.hart_workers.proofs.Tellings.{Telling}
use Rattle.hart_workers.proofs.telling.tell_reports.Given as goal

abbrev pub invariant-loop-one : goal.invariant-loop-one
invariant-loop-one g l =
    Telling (is_met (g.S.Suppressions.rule_met l.fn.reporter.rules)) l.fn.image l.fn.states l.fn.desk (awaited_in l.fn.pending)
    l.fn.reporter.kept l.reporter.kept l.yielded (into_iter_items l.one-iterator)
    × (into_iter_len l.one-iterator ≡ length (into_iter_items l.one-iterator))
    × (l.reporter.rules ≡ l.fn.reporter.rules)

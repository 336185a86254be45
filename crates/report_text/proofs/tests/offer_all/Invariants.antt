use Rattle.std.proofs.Common.{◌≤◌}
use Rattle.report_text.specs.Offers.{offers}
use Rattle.report_text.proofs.tests.offer_all.Given as goal

abbrev pub invariant-loop-mine : goal.invariant-loop-mine
invariant-loop-mine l = offers l.reporter.kept ≤ l.mine-index

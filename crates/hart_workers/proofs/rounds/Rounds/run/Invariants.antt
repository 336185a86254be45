use Rattle.std.proofs.Common.{◌≡◌}
use Rattle.report_text.specs.Offers.{is_met}
use Rattle.shared_table.specs.Seats.{IsOpener}
use Rattle.hart_workers.specs.Standing.{IsBetween}
use Rattle.hart_workers.proofs.rounds.Rounds.run.Given as goal

abbrev pub invariant-loop : goal.invariant-loop
invariant-loop g l = record {
  opener : IsOpener l.shared l.seat;
  between :
      IsBetween (is_met (g.S.Suppressions.rule_met l.fn.reporter.rules)) l.new.image.now l.new.limits.now l.shared.layout l.seat.me.0 l.self
      l.reporter.kept;
  rules : l.reporter.rules ≡ l.fn.reporter.rules;
}

use Rattle.std.proofs.Common.{◌≡◌, ap, sym, subst}
use Rattle.report_text.specs.Offers.{is_met}
use Rattle.shared_table.specs.declared.view.View.{View}
use Rattle.hart_workers.specs.Standing.{IsBetween}
use Rattle.hart_workers.proofs.Over.{run_over}
use Rattle.hart_workers.proofs.run.run_rounds.Goals as goal

pub returns : goal.returns
returns g c plan =
    let file = c.args.image.now in
    let limits = c.args.limits.now in
    let lay = c.in_ok-shared.shared.layout in
    let rounds = c.run.new.self in
    let kept = c.run.new.reporter.kept in
    let v = c.learn.new.seat.me.0 in
    let met = g.S.Suppressions.rule_met in
    let rules_are = ap (λ r. r.rules) c.new-reporter.ensures in
    let same_view : v ≡ c.run.new.seat.me.0 = ap (λ m. m.0) c.learn.ensures.same in
    let over = c.in_ok-end.ensures in
    let between : IsBetween (is_met (met c.args.suppressions.now)) file limits lay v rounds kept =
    subst (λ rules. IsBetween (is_met (met rules)) file limits lay v rounds kept) rules_are
    (subst (λ (w : View). IsBetween (is_met (met c.new-reporter.result.rules)) file limits lay w rounds kept) (sym same_view) over.between) in
    let ends = c.finished.ensures in
    run_over (is_met (met c.args.suppressions.now)) file limits lay v rounds kept c.in_ok-end.end c.finished.result plan between c.learn.ensures.own.layout
    c.learn.ensures.told over.end ends.entries ends.kept ends.output ends.last

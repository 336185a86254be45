use Rattle.std.proofs.Common.{◌≡◌, List, refl, sym, subst}
use Rattle.run_record.specs.declared.plan.Turn.{Turn}
use Rattle.run_laws.specs.Faithful.{OneByOne}
use Rattle.run_laws.specs.Rounds as rounds
use Rattle.machine_laws.specs.Machine.{bare_of}
use Rattle.step_engine.specs.Progress.{progress}
use Rattle.step_engine.proofs.RunLaws.{is_run}
use Rattle.step_engine.proofs.engine.run_plan.Goals as goal

pub run-requires-clause-reached : goal.run-requires-clause-reached
run-requires-clause-reached g c = subst (rounds.Reaches OneByOne c.args.limits.now (bare_of c.args.image.now c.args.limits.now.harts) c.as_slice.result.now) (sym (c.in_ok-engine.ensures.start c.as_slice.result.now)) rounds.Start

pub returns : goal.returns
returns g c =
    let engine = c.run.new.self in
    let limits = c.args.limits.now in
    let bare = bare_of c.args.image.now limits.harts in
    let plan_is : c.as_slice.result.now ≡ c.args.plan.now = c.as_slice.ensures in
    let reached = subst (λ (plan : List Turn). rounds.Reaches OneByOne limits bare plan (progress engine plan)) plan_is c.in_ok-end.ensures.reached in
    let ends = subst (λ (plan : List Turn). rounds.Ends OneByOne limits bare (progress engine plan) c.in_ok-end.end) plan_is c.in_ok-end.ensures.ends in
    is_run _ _ _ _ engine c.run.new.reporter.kept c.in_ok-end.end _ c.accepted.ensures c.in_ok-end.ensures.ready (rw c.new-reporter.ensures at c.in_ok-end.ensures.told) reached ends refl
    (rw c.threads.ensures.count refl)
    (rw (c.into_reports.ensures, c.suppressed-suppressed.ensures, c.equal-equal.ensures) refl)
    (rw (c.from_vec.ensures, c.into_output.ensures) refl)

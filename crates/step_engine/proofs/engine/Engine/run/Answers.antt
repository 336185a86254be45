use Rattle.std.proofs.Common.{rules, refl, sym, ◌∙◌, ◌<◌, subst}
use Rattle.run_record.specs.declared.limits.Limits.{Limits}
use Rattle.report_text.specs.Offers.{is_met}
use Rattle.step_engine.specs.Progress.{MakesRound, IsReady}
use Rattle.whole_runs.specs.Told.{Told}
use Rattle.step_engine.proofs.LiveLaws.{live_again, made_more}
use Rattle.step_engine.proofs.RunLaws.{reached-more, ends-itself, ends-undue, ends-spent}
use Rattle.step_engine.proofs.engine.Engine.run.Goals as goal

pub returns-in-Some-clause-ends : goal.returns-in-Some-clause-ends
returns-in-Some-clause-ends g c = ends-itself _ _ _ _ c.rounds.invariant.ready _ (sym c.ended.ensures ∙ c.in-Some.is)

pub returns-in_default-due-clause-ends : goal.returns-in_default-due-clause-ends
returns-in_default-due-clause-ends g c =
    ends-undue _ _ _ _ c.rounds.invariant.ready (sym c.ended.ensures ∙ c.in_default.is) (c.due.ensures.due ∙ rw c.in_default-due.is refl)

pub returns-then-due-eq0-clause-ends : goal.returns-then-due-eq0-clause-ends
returns-then-due-eq0-clause-ends g c =
    ends-spent _ _ _ _ c.rounds.invariant.ready c.in-Some-due.due (sym c.ended.ensures ∙ c.in_default.is)
    (c.due.ensures.due ∙ rw c.in-Some-due.is refl) (search rules)

pub round-requires-clause-ready : goal.round-requires-clause-ready
round-requires-clause-ready g c =
    subst (λ (l : Limits). IsReady c.args.image.now l c.rounds.self) (sym c.rounds.invariant.ready.between.follows.stands.limits_are) c.rounds.invariant.ready

pub rounds-preserved : goal.rounds-preserved
rounds-preserved g c =
    let given : 0 < c.in-Some-due.due.given = search rules in
    let made = subst (λ (l : Limits). MakesRound c.args.image.now l c.rounds.self c.round.new.self c.in-Some-due.due) c.rounds.invariant.ready.between.follows.stands.limits_are c.in_ok-round.ensures.made in
    record {
      reached = reached-more _ _ _ _ c.rounds.invariant.ready _ _ c.rounds.invariant.reached (sym c.ended.ensures ∙ c.in_default.is) (c.due.ensures.due ∙ rw c.in-Some-due.is refl) given c.in-Some-due.ensures.rest made;
      turn = rw made.turn c.in-Some-due.ensures.turn;
      ready = made.ready;
      live = live_again _ _ _ _ _ c.rounds.invariant.ready made _ _ _ c.rounds.invariant.live c.threads-made.ensures.count (rw c.keep_live.ensures at c.in_ok-add_live-2.ensures);
      told = subst (λ (l : Limits). Told (is_met (g.S.Suppressions.rule_met c.args.reporter.now.rules)) c.args.image.now l c.round.new.self.entries c.round.new.reporter.kept) c.rounds.invariant.ready.between.follows.stands.limits_are (rw c.rounds.invariant.rules at c.in_ok-round.ensures.told);
      rules = c.round.ensures.rules ∙ c.rounds.invariant.rules;
    }

pub add_live-requires-in-rounds : goal.add_live-requires-in-rounds
add_live-requires-in-rounds g c =
    let made = subst (λ (l : Limits). MakesRound c.args.image.now l c.rounds.self c.round.new.self c.in-Some-due.due) c.rounds.invariant.ready.between.follows.stands.limits_are c.in_ok-round.ensures.made in
    rw c.threads-made.ensures.count (made_more _ _ _ _ _ c.rounds.invariant.ready made)

use Rattle.std.proofs.Common.{◌∙◌, sym, subst, Bool}
use Rattle.std.proofs.lemmas.Result.{IfErr-weaker, IfOk-weaker}
use Rattle.command_words.specs.Command.{rows_read}
use Rattle.command_words.specs.Parts.{IsRefusal}
use Rattle.command_words.specs.declared.request.UsageFault.TheVariants as fault
use Rattle.command_words.proofs.RequestLaws.{no_plan_given, plan_given}
use Rattle.command_words.proofs.reader.plan_in.Goals as goal

pub returns-in-Some-clause-ok : goal.returns-in-Some-clause-ok
returns-in-Some-clause-ok c =
    let known = plan_given (rows_read c.args.matches.now) c.in-Some.text.now c.in-Some.ensures in
    IfOk-weaker c.read_plan.result _ _ (λ plan h. (sym known.0 ∙ h.0, h.1 ∙ known.1)) c.read_plan.ensures.ok

pub returns-in-Some-clause-err : goal.returns-in-Some-clause-err
returns-in-Some-clause-err c =
    let known = plan_given (rows_read c.args.matches.now) c.in-Some.text.now c.in-Some.ensures in
    IfErr-weaker c.read_plan.result _ _ (λ e h. subst (λ (test : Bool). IsRefusal fault.Plan test e) known.0 h) c.read_plan.ensures.err

pub returns-in-None-clause-ok : goal.returns-in-None-clause-ok
returns-in-None-clause-ok c =
    let known = no_plan_given (rows_read c.args.matches.now) c.in-None.ensures in
    (known.0, c.new.ensures ∙ known.1)

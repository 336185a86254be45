use Rattle.std.proofs.Common.{lit<, refl, ◌∙◌, None, Some}
use Rattle.command_words.proofs.PlanLaws.{no_colon, turn_read}
use Rattle.command_words.proofs.plans.turn_of.Goals as goal

pub returns-in_err-tid : goal.returns-in_err-tid
returns-in_err-tid c = c.from_residual.ensures ∙ no_colon c.args.text.now (c.in_err-tid.ensures.byte (lit< tt) (λ w o h. h))

pub returns-in_err-tid-2 : goal.returns-in_err-tid-2
returns-in_err-tid-2 c =
    let cut = c.in_ok-tid.ensures.byte (lit< tt) (λ w o h. h) in
    c.from_residual-in_err-tid-2.ensures ∙ turn_read c.args.text.now c.in_ok-tid.tid.now c.in_ok-tid.steps.now None _ cut.0 cut.1 c.in_err-tid-2.ensures.value refl

pub returns-in_err-steps : goal.returns-in_err-steps
returns-in_err-steps c =
    let cut = c.in_ok-tid.ensures.byte (lit< tt) (λ w o h. h) in
    c.from_residual-in_err-steps.ensures
    ∙ turn_read c.args.text.now c.in_ok-tid.tid.now c.in_ok-tid.steps.now (Some c.in_ok-tid-2.tid) None cut.0 cut.1 c.in_ok-tid-2.ensures.value c.in_err-steps.ensures.value

pub returns : goal.returns
returns c =
    let cut = c.in_ok-tid.ensures.byte (lit< tt) (λ w o h. h) in
    turn_read c.args.text.now c.in_ok-tid.tid.now c.in_ok-tid.steps.now (Some c.in_ok-tid-2.tid) (Some c.in_ok-steps.steps) cut.0 cut.1 c.in_ok-tid-2.ensures.value c.in_ok-steps.ensures.value

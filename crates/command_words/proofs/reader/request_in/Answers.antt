use Rattle.std.proofs.Common.{◌∙◌, ap₂}
use Rattle.command_words.specs.Command.{rows_read}
use Rattle.command_words.specs.Requests.{has_plan, request_from, task_text, task_with}
use Rattle.command_words.specs.declared.request.UsageFault.TheVariants as fault
use Rattle.command_words.proofs.RequestLaws.{enough_slots, few_slots, fewer_slots, has_work_fault, lacks_numbers, lacks_plan, no_fault, request_told, tells_refusal}
use Rattle.command_words.proofs.reader.request_in.Goals as goal

pub returns-in-Err : goal.returns-in-Err
returns-in-Err c = has_work_fault (rows_read c.args.matches.now) c.in-Err.fault c.in-Err.ensures

pub returns-in-None : goal.returns-in-None
returns-in-None c = lacks_numbers (rows_read c.args.matches.now) c.in-Ok.ensures.0 c.in-None.ensures.none

pub returns-in-Err-plan_in : goal.returns-in-Err-plan_in
returns-in-Err-plan_in c =
    tells_refusal (request_from (rows_read c.args.matches.now)) fault.Plan (has_plan (rows_read c.args.matches.now)) c.in-Err-plan_in.refusal c.in-Err-plan_in.ensures.err
    (lacks_plan (rows_read c.args.matches.now) c.in-Ok.ensures.0 c.in-Some.ensures.some)

pub returns-then-numbers : goal.returns-then-numbers
returns-then-numbers c =
    few_slots (rows_read c.args.matches.now) c.in-Ok.ensures.0 c.in-Some.ensures.some c.in-Ok-plan_in.ensures.ok.0
    (fewer_slots (rows_read c.args.matches.now) c.in-Some.numbers.limits c.in-Some.ensures.limits c.if-numbers.true)

pub returns : goal.returns
returns c =
    let rows = rows_read c.args.matches.now in
    let work_is = c.task_of.ensures ∙ c.in-Ok.ensures.1 c.in-Some.numbers.seed c.in-Some.numbers.size ∙ ap₂ (task_with rows) c.in-Some.ensures.seed c.in-Some.ensures.size in
    request_told rows (task_text c.task_of.result) c.in-Some.numbers.limits c.in-Ok-plan_in.plan _
    (no_fault rows c.in-Ok.ensures.0 c.in-Some.ensures.some c.in-Ok-plan_in.ensures.ok.0
    (enough_slots rows c.in-Some.numbers.limits c.in-Some.ensures.limits c.if-numbers.false))
    work_is c.in-Some.ensures.limits c.in-Ok-plan_in.ensures.ok.1 c.text_given.ensures

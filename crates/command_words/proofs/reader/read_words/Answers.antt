use Rattle.std.proofs.Common.{subst, map, string_bytes, Result}
use Rattle.command_words.specs.Command.{is_taken}
use Rattle.command_words.specs.Requests.{RequestText, Tells, request_of}
use Rattle.command_words.specs.declared.request.UsageFault.{UsageFault}
use Rattle.command_words.specs.declared.request.UsageFault.TheVariants as fault
use Rattle.command_words.proofs.RequestLaws.{limits_told, plan_told, task_told, tells_refusal, words_refused, words_taken}
use Rattle.command_words.proofs.reader.read_words.Goals as goal

pub returns-in-Ok-clause-told : goal.returns-in-Ok-clause-told
returns-in-Ok-clause-told c =
    subst (λ (wanted : Result RequestText UsageFault). Tells wanted c.request_in.result) (words_taken _ _ c.in-Ok.ensures.ok.0 c.in-Ok.ensures.ok.1) c.request_in.ensures

pub returns-in-Ok-clause-limits : goal.returns-in-Ok-clause-limits
returns-in-Ok-clause-limits c = limits_told (map string_bytes c.args.words.now) c.request_in.result (returns-in-Ok-clause-told c)

pub returns-in-Err-clause-told : goal.returns-in-Err-clause-told
returns-in-Err-clause-told c =
    tells_refusal (request_of (map string_bytes c.args.words.now)) fault.Words (is_taken (map string_bytes c.args.words.now)) c.in-Err.refusal c.in-Err.ensures.err
    (words_refused (map string_bytes c.args.words.now))

pub returns-in-Ok-clause-plan : goal.returns-in-Ok-clause-plan
returns-in-Ok-clause-plan c = plan_told (map string_bytes c.args.words.now) c.request_in.result (returns-in-Ok-clause-told c)

pub returns-in-Ok-clause-task : goal.returns-in-Ok-clause-task
returns-in-Ok-clause-task c = task_told (map string_bytes c.args.words.now) c.request_in.result (returns-in-Ok-clause-told c)

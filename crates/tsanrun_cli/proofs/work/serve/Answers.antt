use Rattle.std.proofs.Common.{◌≡◌, ap}
use Rattle.command_words.specs.Requests.{request_text, task_text, generate}
use Rattle.tsanrun_cli.proofs.Made.{made_run}
use Rattle.tsanrun_cli.proofs.work.serve.Goals as goal

pub returns-in-Ok-clause-run : goal.returns-in-Ok-clause-run
returns-in-Ok-clause-run g c =
    let request = request_text c.args.request.now in
    let task : request.task ≡ generate c.in-Generate.seed c.in-Generate.size = ap task_text c.in-Generate.is in
    made_run request _ _ _ _ c.in-Generate.seed c.in-Generate.size c.in-Ok.told task (c.in-Ok.ensures task)

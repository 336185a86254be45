use Rattle.command_words.specs.Requests.{request_text}
use Rattle.tsanrun_cli.proofs.Made.{went_at_once}
use Rattle.tsanrun_cli.proofs.work.rounds_image.Goals as goal

pub returns : goal.returns
returns g c = λ file task.
    went_at_once (request_text c.args.request.now) c.args.image.now c.args.rules.now c.in_ok-names.names file c.in_ok-names.ensures c.in_ok-finished.finished
    c.tell_reports.result task c.in_ok-finished.ensures c.tell_reports.ensures

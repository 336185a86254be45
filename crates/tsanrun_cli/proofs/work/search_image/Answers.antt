use Rattle.std.proofs.Common.{refl}
use Rattle.command_words.specs.Requests.{request_text}
use Rattle.tsanrun_cli.proofs.Made.{found_told}
use Rattle.tsanrun_cli.proofs.work.search_image.Goals as goal

pub returns : goal.returns
returns c = λ file task.
    found_told (request_text c.args.request.now) c.args.image.now c.args.rules.now _ c.args.search file c.in_ok-found.found.count task
    c.in_ok-finished.ensures c.in_ok-found.ensures c.found_status-status.ensures refl

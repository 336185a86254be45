use Rattle.hart_turns.proofs.Checking.{waited_for}
use Rattle.hart_turns.proofs.check.check_access.Goals as goal

pub returns-clause-checked : goal.returns-clause-checked
returns-clause-checked c =
    waited_for c.args.image.now c.args.watcher.now c.args.event.now c.args.place c.args.findings.now.checks c.check_all.new.checks
    c.args.findings.now.waiting.items c.wait_for.new.waiting.items c.args.seat.now.me c.check_all.new.seat.me c.in_ok-raced.raced c.wait_for.result
    c.in_ok-raced.ensures.all c.wait_for.ensures

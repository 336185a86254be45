use Rattle.hart_turns.proofs.OneEvent.{heard_map}
use Rattle.hart_turns.proofs.Making.{made_alone}
use Rattle.hart_turns.proofs.make.make_alone.Goals as goal

pub returns-clause-made : goal.returns-clause-made
returns-clause-made c =
    heard_map _ _ c.hear_told.result
    (λ spent h. made_alone c.args.image.now c.args.limits.now c.args.tid c.args.given.now c.args.base c.args.request.now c.args.hart.now c.serve_alone.new.self
    c.args.watcher.now c.hear_told.new.watcher c.serve_alone.new.events c.hear_told.new.place c.args.findings.now.checks c.hear_told.new.findings.checks
    c.args.findings.now.waiting.items c.hear_told.new.findings.waiting.items c.args.seat.now.me
    c.hear_told.new.seat.me spent c.requires.alone c.serve_alone.ensures h)
    c.hear_told.ensures.heard

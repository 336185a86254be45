use Rattle.hart_turns.proofs.OneEvent.{heard_map, access_one}
use Rattle.hart_turns.proofs.events.hear_checked.Goals as goal

pub returns-clause-heard : goal.returns-clause-heard
returns-clause-heard c = heard_map _ _ c.hear_access.result
    (λ spent h k t clock place. access_one c.args.image.now c.args.limits.now k t clock c.args.event.now c.args.at c.args.watcher.now
    c.hear_access.new.watcher place c.args.findings.now.checks c.hear_access.new.findings.checks c.args.findings.now.waiting.items
    c.hear_access.new.findings.waiting.items c.args.seat.now.me c.hear_access.new.seat.me spent c.requires.access c.requires.ready h)
    c.hear_access.ensures.heard

use Rattle.hart_turns.proofs.OneEvent.{put_one}
use Rattle.hart_turns.proofs.events.hear_event.Goals as goal

pub returns-in-Put-clause-heard : goal.returns-in-Put-clause-heard
returns-in-Put-clause-heard c =
    put_one c.args.image.now c.args.limits.now c.args.number c.args.tid c.args.given.now c.args.event.now c.args.at c.args.watcher.now c.args.place.now
    c.args.findings.now.checks c.args.findings.now.waiting.items c.args.seat.now.me c.in-Put.value c.in-Put.count c.in-Put.is

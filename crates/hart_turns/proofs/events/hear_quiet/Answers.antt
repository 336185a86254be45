use Rattle.hart_turns.proofs.OneEvent.{heard_map, quiet_one}
use Rattle.hart_turns.proofs.events.hear_quiet.Goals as goal

pub returns : goal.returns
returns c = heard_map _ _ c.hear_own.result
    (λ spent h file k t at clock place checks waiting me. quiet_one file c.args.limits.now k t clock c.args.event.now at c.args.watcher.now c.hear_own.new.watcher place checks waiting me
    spent c.requires.quiet c.requires.ready h)
    c.hear_own.ensures

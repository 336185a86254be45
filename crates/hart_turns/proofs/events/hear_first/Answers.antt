use Rattle.std.proofs.Common.{refl}
use Rattle.run_record.specs.declared.event.Event.TheVariants.{Begin}
use Rattle.hart_turns.proofs.OneEvent.{heard_only, begin_one}
use Rattle.hart_turns.proofs.events.hear_first.Goals as goal

pub returns : goal.returns
returns c = heard_only _ _ c.hear_begin.result
    (λ spent h file k t at place checks waiting me. begin_one file c.args.limits.now k t c.args.given.now Begin at c.args.watcher.now c.hear_begin.new.watcher place checks waiting me
    spent refl c.requires.ready h)
    c.hear_begin.ensures

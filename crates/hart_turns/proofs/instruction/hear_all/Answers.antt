use Rattle.std.proofs.Common.{arith, subst}
use Rattle.hart_turns.specs.Hearing.{IsHeard}
use Rattle.hart_turns.proofs.Checking.{no_steps, more_steps}
use Rattle.hart_turns.proofs.OneEvent.{same_bare}
use Rattle.hart_turns.proofs.AllEvents.{bare_trans, sofar_start, sofar_next, sofar_end}
use Rattle.hart_turns.proofs.instruction.hear_all.Goals as goal

pub loop-event-init : goal.loop-event-init
loop-event-init c = (
  c.requires.own,
  c.requires.place,
  omega arith,
  no_steps c.args.seat.now.me,
  sofar_start c.args.image.now c.args.limits.now c.args.number c.args.tid c.args.given.now c.args.base c.args.events.now c.args.watcher.now c.args.place.now
      c.args.findings.now.checks c.args.findings.now.waiting.items c.args.seat.now.me,
  same_bare c.args.place.now,
)

pub loop-event-preserved : goal.loop-event-preserved
loop-event-preserved c =
    let i = c.loop-event.invariant in (
      c.in_ok-heard.ensures.own,
      c.in_ok-heard.ensures.place,
      let at = i.2 in omega arith,
      more_steps c.args.seat.now.me c.loop-event.seat.me c.hear_event.new.seat.me i.3 c.in_ok-heard.ensures.seat,
      sofar_next c.args.image.now c.args.limits.now c.args.number c.args.tid c.args.given.now c.args.base c.loop-event.event-index c.args.events.now _ c.loop-event.at
          c.args.watcher.now c.loop-event.watcher c.hear_event.new.watcher c.args.place.now c.loop-event.place c.hear_event.new.place c.args.findings.now.checks
          c.loop-event.findings.checks c.hear_event.new.findings.checks c.args.findings.now.waiting.items c.loop-event.findings.waiting.items
          c.hear_event.new.findings.waiting.items c.args.seat.now.me c.loop-event.seat.me c.hear_event.new.seat.me c.loop-event.spent c.in-Heard.label i.4
          c.loop-event-test.true i.2 (subst (IsHeard _) c.in-Heard.is c.in_ok-heard.ensures.heard),
      bare_trans c.args.place.now c.loop-event.place c.hear_event.new.place i.5 c.in_ok-heard.ensures.bare,
    )

pub returns-clause-heard : goal.returns-clause-heard
returns-clause-heard c =
    sofar_end c.args.image.now c.args.limits.now c.args.number c.args.tid c.args.given.now c.args.base c.loop-event.event-index c.args.events.now c.args.watcher.now
    c.loop-event.watcher c.args.place.now c.loop-event.place c.args.findings.now.checks c.loop-event.findings.checks c.args.findings.now.waiting.items
    c.loop-event.findings.waiting.items c.args.seat.now.me c.loop-event.seat.me c.loop-event.spent
    c.loop-event.invariant.4 (let z = c.loop-event-test.false in omega arith)

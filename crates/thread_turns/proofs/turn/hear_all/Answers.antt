use Rattle.std.proofs.Common.{arith}
use Rattle.thread_turns.proofs.EventLaws.{partway_start, partway_end, partway_next, next_event, asks}
use Rattle.run_record.specs.declared.event.Event.TheVariants.{Leave}
use Rattle.thread_turns.proofs.turn.hear_all.Goals as goal

pub loop-event-init : goal.loop-event-init
loop-event-init c = partway_start _ _ _ _ _

pub overflow_cast-place : goal.overflow_cast-place
overflow_cast-place c =
    let place = (asks _ _ _ _ _ _ _ _ _ _ _ c.requires.can (next_event _ _ _ _ Leave _ _ _ _ c.loop-event.invariant c.loop-event-test.true) c.in_ok-room.ensures.rest).place in
    omega arith

pub hear-requires-clause-going : goal.hear-requires-clause-going
hear-requires-clause-going c = (asks _ _ _ _ _ _ _ _ _ _ _ c.requires.can (next_event _ _ _ _ Leave _ _ _ _ c.loop-event.invariant c.loop-event-test.true) c.in_ok-room.ensures.rest).going

pub hear-requires-clause-stands : goal.hear-requires-clause-stands
hear-requires-clause-stands c = (asks _ _ _ _ _ _ _ _ _ _ _ c.requires.can (next_event _ _ _ _ Leave _ _ _ _ c.loop-event.invariant c.loop-event-test.true) c.in_ok-room.ensures.rest).stands

pub hear-requires-clause-can : goal.hear-requires-clause-can
hear-requires-clause-can c = (asks _ _ _ _ _ _ _ _ _ _ _ c.requires.can (next_event _ _ _ _ _ _ _ _ _ c.loop-event.invariant c.loop-event-test.true) c.in_ok-room.ensures.rest).can

pub hear-requires-clause-count : goal.hear-requires-clause-count
hear-requires-clause-count c = (asks _ _ _ _ _ _ _ _ _ _ _ c.requires.can (next_event _ _ _ _ Leave _ _ _ _ c.loop-event.invariant c.loop-event-test.true) c.in_ok-room.ensures.rest).count

pub loop-event-preserved : goal.loop-event-preserved
loop-event-preserved c = partway_next _ _ _ _ _ _ _ _ _ _ _ _ _ _ _ _ (next_event _ _ _ _ _ _ _ _ _ c.loop-event.invariant c.loop-event-test.true) c.in_ok-room.ensures.rest c.len-place.ensures c.in_ok-push.ensures.ok c.in_ok-part.ensures.heard

pub returns : goal.returns
returns c = partway_end _ _ _ _ _ _ _ _ c.loop-event.invariant (let z = c.loop-event-test.false in omega arith)

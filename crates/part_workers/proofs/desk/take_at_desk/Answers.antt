use Rattle.std.proofs.Common.{[]}
use Rattle.shared_table.proofs.Turns.{took_holds}
use Rattle.part_workers.proofs.AtDesk.{turn_free, turn_number, no_items, took_desk, tried_desk, ok_map}
use Rattle.part_workers.proofs.desk.take_at_desk.Goals as goal

pub give-requires-clause-holds : goal.give-requires-clause-holds
give-requires-clause-holds g c = took_holds 64 c.args.seat.now.me c.take-object.result c.take-object.new.seat.me c.take-object.ensures.took

pub returns-clause-free : goal.returns-clause-free
returns-clause-free g c =
    turn_free 64 c.args.seat.now.me c.take-object.new.seat.me c.take-object.new.seat.me c.give.new.seat.me c.take-object.result c.take_in-took.new.object []
    c.take-object.ensures.took (no_items c.take-object.new.seat.me) c.give.ensures.gave

pub returns-clause-number : goal.returns-clause-number
returns-clause-number g c =
    turn_number 64 c.args.seat.now.me c.take-object.new.seat.me c.take-object.new.seat.me c.give.new.seat.me c.take-object.result c.take_in-took.new.object []
    c.take-object.ensures.took (no_items c.take-object.new.seat.me) c.give.ensures.gave

pub returns-clause-took : goal.returns-clause-took
returns-clause-took g c =
    ok_map _ _ c.take_in-took.result (λ b f e. took_desk c.args.limits.now c.args.post.now c.args.part.now c.take_in-took.new.part c.args.seat.now.me
    c.take-object.new.seat.me c.give.new.seat.me c.args.state.now c.take_in-took.new.state c.take-object.result c.take_in-took.new.object c.take_in-took.new.given
    (f e) c.take-object.ensures.took c.give.ensures.gave) c.take_in-took.ensures.took

pub returns-clause-none : goal.returns-clause-none
returns-clause-none g c =
    ok_map _ _ c.take_in-took.result (λ b f e. tried_desk c.args.limits.now c.args.post.now c.args.part.now c.take_in-took.new.part c.args.seat.now.me
    c.take-object.new.seat.me c.give.new.seat.me c.args.state.now c.take_in-took.new.state c.take-object.result c.take_in-took.new.object
    (f e) c.take-object.ensures.took c.give.ensures.gave) c.take_in-took.ensures.none

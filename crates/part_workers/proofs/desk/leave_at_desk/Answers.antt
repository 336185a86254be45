use Rattle.std.proofs.Common.{[]}
use Rattle.shared_table.proofs.Turns.{took_holds}
use Rattle.part_workers.proofs.AtDesk.{turn_free, turn_number, no_items, left_desk, ok_map}
use Rattle.part_workers.proofs.desk.leave_at_desk.Goals as goal

pub give-requires-clause-holds : goal.give-requires-clause-holds
give-requires-clause-holds g c = took_holds 64 c.args.seat.now.me c.take-object.result c.take-object.new.seat.me c.take-object.ensures.took

pub returns-clause-free : goal.returns-clause-free
returns-clause-free g c =
    turn_free 64 c.args.seat.now.me c.take-object.new.seat.me c.take-object.new.seat.me c.give.new.seat.me c.take-object.result c.leave_in-left.new.object []
    c.take-object.ensures.took (no_items c.take-object.new.seat.me) c.give.ensures.gave

pub returns-clause-number : goal.returns-clause-number
returns-clause-number g c =
    turn_number 64 c.args.seat.now.me c.take-object.new.seat.me c.take-object.new.seat.me c.give.new.seat.me c.take-object.result c.leave_in-left.new.object []
    c.take-object.ensures.took (no_items c.take-object.new.seat.me) c.give.ensures.gave

pub returns-clause-left : goal.returns-clause-left
returns-clause-left g c =
    ok_map _ _ c.leave_in-left.result (λ b f. left_desk c.args.limits.now c.args.post.now c.args.part.now c.leave_in-left.new.part c.args.seat.now.me
    c.take-object.new.seat.me c.give.new.seat.me c.args.label c.args.watcher.now c.take-object.result c.leave_in-left.new.object
    f c.take-object.ensures.took c.give.ensures.gave) c.leave_in-left.ensures.left

use Rattle.part_workers.proofs.AtDesk.{leaves_told}
use Rattle.part_workers.proofs.desk.leave_of.Goals as goal

pub returns-clause-left : goal.returns-clause-left
returns-clause-left c =
    let left = let z = c.if-not-leave_slot.false in c.leave_slot.ensures.left (cc) in
    leaves_told c.args.limits.now c.args.post.now c.args.label c.args.watcher.now c.args.desk.now c.leave_slot.new.desk c.in_ok-stamp.stamp c.args.part.now
    c.tell_note.new.self left c.leave_slot.ensures.kept.last_is c.in_ok-stamp.ensures c.in_ok-tell_note.ensures

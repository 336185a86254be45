use Rattle.std.proofs.Common.{Option, subst}
use Rattle.run_record.specs.declared.entry.Label.{Label}
use Rattle.part_workers.specs.Makes.{Serves}
use Rattle.part_workers.proofs.AtDesk.{ok_map}
use Rattle.part_workers.proofs.Turning.{turn_made, turn_left}
use Rattle.part_workers.proofs.turn.make.Goals as goal

pub returns-in-None-clause-made : goal.returns-in-None-clause-made
returns-in-None-clause-made g c =
    turn_made c.args.image.now c.args.limits.now c.args.post.now c.args.given.now c.args.request.now c.args.hart.now c.serve.new.hart c.args.watcher.now
    c.serve.new.watcher c.args.part.now c.serve.new.part c.args.seat.now.me c.serve.new.seat.me
    (subst (λ (o : Option Label). Serves c.args.image.now c.args.limits.now c.args.post.now c.args.given.now c.args.request.now c.args.hart.now c.serve.new.hart
    c.args.watcher.now c.serve.new.watcher c.args.part.now c.serve.new.part c.args.seat.now.me c.serve.new.seat.me o) c.in-None.is c.in_ok-spent.ensures.served)

pub returns-clause-made : goal.returns-clause-made
returns-clause-made g c =
    ok_map _ _ c.leave_at_desk.result (λ done l. turn_left c.args.image.now c.args.limits.now c.args.post.now c.args.given.now c.args.request.now c.args.hart.now
    c.serve.new.hart c.args.watcher.now c.serve.new.watcher c.args.part.now c.serve.new.part c.args.seat.now.me c.serve.new.seat.me c.in-Some.label
    c.leave_at_desk.new.part c.leave_at_desk.new.seat.me.0.log
    (subst (λ (o : Option Label). Serves c.args.image.now c.args.limits.now c.args.post.now c.args.given.now c.args.request.now c.args.hart.now c.serve.new.hart
    c.args.watcher.now c.serve.new.watcher c.args.part.now c.serve.new.part c.args.seat.now.me c.serve.new.seat.me o) c.in-Some.is c.in_ok-spent.ensures.served) l)
    c.leave_at_desk.ensures.left

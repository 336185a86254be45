use Rattle.std.proofs.Common.{refl, ap, not, ◌∙◌}
use Rattle.part_workers.proofs.AtDesk.{ok_map}
use Rattle.part_workers.proofs.NextTurn.{goes_arrived}
use Rattle.part_workers.proofs.Sharing.{present_of}
use Rattle.part_workers.proofs.share.make_next.Goals as goal

pub returns-clause-goes : goal.returns-clause-goes
returns-clause-goes g c =
    ok_map _ _ c.go_on.result (λ r h e. goes_arrived c.args.image.now c.args.limits.now c.args.post.now c.args.state.now c.go_on.new.state c.args.part.now
    c.go_on.new.part c.args.seat.now.me.0.log c.go_on.new.seat.me.0.log c.args.state.now.hart refl (present_of c.args.state.now.hart (c.is_none.ensures ∙ ap not c.if-is_none.false)) (h e))
    c.go_on.ensures.goes

use Rattle.std.proofs.Common.{◌++◌, ◌∷◌, [], ap, sym, ◌∙◌, arith, length}
use Rattle.slot_desk.proofs.DeskLists.{length-up_from, up_from-next}
use Rattle.slot_desk.proofs.queue.refill.Goals as goal

pub push_back_reserved-requires : goal.push_back_reserved-requires
push_back_reserved-requires c = omega (arith, c.loop-sid.queue.ok.0, ap length c.loop-sid.invariant.0, length-up_from 0 c.loop-sid.sid)

pub loop-sid-preserved : goal.loop-sid-preserved
loop-sid-preserved c =
    (c.push_back_reserved.ensures.items ∙ (ap (λ q. q ++ c.loop-sid.sid ∷ []) c.loop-sid.invariant.0 ∙ sym (up_from-next c.loop-sid.sid)), c.push_back_reserved.ensures.capacity ∙ c.loop-sid.invariant.1)

use Rattle.lock_order.proofs.NodeLaws.{not_missing}
use Rattle.lock_order.proofs.knot.number.Goals as goal

pub returns-in-Err : goal.returns-in-Err
returns-in-Err c = absurd (not_missing c.args.nodes.now c.args.addr c.in-Err.number c.requires.rising c.requires.there c.in-Err.ensures.position)

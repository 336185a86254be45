use Rattle.std.proofs.Common.{sym}
use Rattle.lock_order.proofs.EdgeLaws.{pair_added}
use Rattle.lock_order.proofs.found.add_edge.Goals as goal

pub returns-in_ok-insert : goal.returns-in_ok-insert
returns-in_ok-insert c =
    pair_added c.args.found.now c.insert.new.self c.args.from c.args.to c.args.tid (sym c.if-not-contains_key.ensures) c.in_ok-insert.ensures.updates.0

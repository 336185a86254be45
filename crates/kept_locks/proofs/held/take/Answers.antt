use Rattle.std.proofs.Common.{arith}
use Rattle.std.proofs.lemmas.List.{length-map}
use Rattle.kept_locks.proofs.HeldLaws.{taken_kept, lock_of, by}
use Rattle.kept_locks.proofs.held.take.Goals as goal

pub returns-in_ok-push : goal.returns-in_ok-push
returns-in_ok-push c =
    let counted = rw c.deref.ensures.value at c.count.ensures in
    taken_kept c.args.tid c.args.addr c.args.read c.args.held.now.items c.push.new.self.items
    (omega (arith, counted, length-map (by c.args.tid c.args.held.now.items) lock_of)) c.in_ok-push.ensures.items

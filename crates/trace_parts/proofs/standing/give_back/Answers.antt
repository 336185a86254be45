use Rattle.std.proofs.Common.{ap, ◌∙◌, arith}
use Rattle.run_laws.specs.Stacks.{without_last, is_lock}
use Rattle.trace_parts.proofs.LockLaws.{removed_lock, no_lock}
use Rattle.trace_parts.proofs.standing.give_back.Goals as goal

pub returns-then-lock-read-clause-items : goal.returns-then-lock-read-clause-items
returns-then-lock-read-clause-items c =
    removed_lock c.args.addr c.args.read c.loop-i.locks.items c.remove.new.self.items c.loop-i.i c.index-lock.result.now c.loop-i-test.true (omega arith) c.index-lock.ensures c.if-lock-addr.true c.if-lock-read.true c.loop-i.invariant.0 c.remove.ensures.items
    ∙ ap (without_last (is_lock c.args.addr c.args.read)) c.loop-i.invariant.1

pub returns-clause-items : goal.returns-clause-items
returns-clause-items c =
    no_lock (is_lock c.args.addr c.args.read) c.loop-i.locks.items c.args.locks.now.items c.loop-i.i (omega arith) c.loop-i.invariant.0 c.loop-i.invariant.1

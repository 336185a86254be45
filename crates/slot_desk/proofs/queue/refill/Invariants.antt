use Rattle.std.proofs.Common.{◌≡◌, deque_capacity}
use Rattle.run_laws.specs.Numbers.{up_from}
use Rattle.slot_desk.proofs.queue.refill.Given as goal

abbrev pub invariant-loop-sid : goal.invariant-loop-sid
invariant-loop-sid l = (l.queue.items ≡ up_from 0 l.sid) × (deque_capacity l.queue ≡ deque_capacity l.fn.queue)

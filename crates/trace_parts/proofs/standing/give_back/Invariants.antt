use Rattle.std.proofs.Common.{◌≡◌, drop, false}
use Rattle.std.specs.List.{list_any}
use Rattle.run_laws.specs.Stacks.{is_lock}
use Rattle.trace_parts.proofs.standing.give_back.Given as goal

-- none of the locks behind is it
abbrev pub invariant-loop-i : goal.invariant-loop-i
invariant-loop-i l = (list_any (is_lock l.addr l.read) (drop l.i l.locks.items) ≡ false) × (l.locks.items ≡ l.fn.locks.items)

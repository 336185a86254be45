use Rattle.std.proofs.Common.{◌≡◌, drop, false}
use Rattle.std.specs.List.{list_any}
use Rattle.kept_locks.specs.Held.{is_held}
use Rattle.kept_locks.proofs.held.give_back.Given as goal

-- none of the locks behind is it
abbrev pub invariant-loop-i : goal.invariant-loop-i
invariant-loop-i l = (list_any (is_held l.tid l.addr l.read) (drop l.i l.held.items) ≡ false) × (l.held.items ≡ l.fn.held.items)

use Rattle.std.proofs.Common.{◌≤◌, ◌*◌, take, length}
use Rattle.run_laws.specs.Moments.{moments, items}
use Rattle.offline_audit.specs.Known.{Stands}
use Rattle.offline_audit.specs.Mutexes.{without_mutexes, AreAwaited}
use Rattle.offline_audit.specs.Orders.{events_before, AreRows}
use Rattle.offline_audit.proofs.order.Order.without_mutexes.Given as goal

-- what is known stands after the entries so far, which have their rows
abbrev pub invariant-loop-entry : goal.invariant-loop-entry
invariant-loop-entry l =
    Stands (without_mutexes (items (moments l.history.entries))) (events_before (items (moments l.history.entries)))
    (length (moments (take l.entry-index l.history.entries))) l.known
    × AreRows (events_before (items (moments l.history.entries))) l.history.entries l.entry-index l.rows.items
    × (l.known.count ≤ l.entry-index * 4294967295)
    × AreAwaited (items (moments l.history.entries)) (length (moments (take l.entry-index l.history.entries))) l.left

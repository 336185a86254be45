use Rattle.std.proofs.Common.{◌≡◌, ◌+◌, ℕ}
use Rattle.run_laws.specs.Moments.{Item}
use Rattle.offline_audit.specs.Known.{AreNumbers, Stands}
use Rattle.offline_audit.specs.Orders.{Makes}
use Rattle.offline_audit.proofs.order.note_entry.Given as goal

-- what is known stands after the events so far
abbrev pub invariant-loop-event : goal.invariant-loop-event
invariant-loop-event l =
    (l.known.count ≡ l.initial.known.count + l.event-index)
    × ((h : ℕ → Item) (number : ℕ → ℕ) (n : ℕ) → AreNumbers h number → Makes h n l.tid l.events →
    Stands h number n l.initial.known → Stands h number (n + l.event-index) l.known)

use Rattle.std.proofs.Common.{ℕ, length, ◌-◌, ◌+◌, ◌≤◌, List}
use Rattle.run_record.specs.declared.entry.Entry.{Entry}
use Rattle.run_laws.specs.Moments.{Item}
use Rattle.offline_audit.specs.Orders.{TellsOrder}
use Rattle.offline_audit.specs.Chains.{IsChain}
use Rattle.offline_audit.specs.Firsts.{AreElsewhere, AreMerged}
use Rattle.offline_audit.proofs.earliest.first_apart.Given as goal

-- the events that are passed are in order, and stand before the others
abbrev pub invariant-passage : goal.invariant-passage
invariant-passage l =
    (l.i ≤ length l.xs) × (l.j ≤ length l.ys)
    × ((h : ℕ → Item) (entries : List Entry) → TellsOrder h entries l.order → IsChain h entries l.xs → IsChain h entries l.ys → AreElsewhere entries l.xs l.ys →
    AreMerged h entries l.xs l.ys l.i l.j)

abbrev pub decreases-passage : goal.decreases-passage
decreases-passage l = (length l.xs - l.i) + (length l.ys - l.j)

use Rattle.std.proofs.Common.{ℕ, length, ◌-◌, ◌+◌, ◌≤◌, List}
use Rattle.run_record.specs.declared.entry.Entry.{Entry}
use Rattle.run_laws.specs.Moments.{Item}
use Rattle.offline_audit.specs.Orders.{TellsOrder}
use Rattle.offline_audit.specs.Chains.{ComesBefore, IsChain}
use Rattle.offline_audit.proofs.PassageLaw.{ArePassed}
use Rattle.offline_audit.proofs.sweep.are_apart.Given as goal

-- the events that are passed are in order with all of the other chain
abbrev pub invariant-passage : goal.invariant-passage
invariant-passage l =
    (l.i ≤ length l.xs) × (l.j ≤ length l.ys)
    × ((h : ℕ → Item) (entries : List Entry) → TellsOrder h entries l.order → IsChain h entries l.xs → IsChain h entries l.ys → ArePassed (ComesBefore h entries) l.xs l.ys l.i l.j)

abbrev pub decreases-passage : goal.decreases-passage
decreases-passage l = (length l.xs - l.i) + (length l.ys - l.j)

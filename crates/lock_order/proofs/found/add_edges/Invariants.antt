use Rattle.std.proofs.Common.{◌≡◌, ℕ, Bool}
use Rattle.lock_order.specs.Found.{first_by, or_else}
use Rattle.lock_order.proofs.EdgeLaws.{with_first}
use Rattle.lock_order.proofs.found.add_edges.Given as goal

abbrev pub invariant-loop-keeper : goal.invariant-loop-keeper
invariant-loop-keeper l =
    (x y : ℕ) (read : Bool) → first_by l.found x y ≡ or_else (first_by l.initial.found x y) (with_first l.held l.keeper-index l.tid l.to read x y)

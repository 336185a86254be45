use Rattle.std.proofs.Common.{◌≡◌, ℕ, ◌<◌, ◌≤◌, true}
use Rattle.graph_search.specs.Descents.{flag, end_at}
use Rattle.graph_search.proofs.descent.first_unseen.Given as goal

abbrev pub invariant-loop-place : goal.invariant-loop-place
invariant-loop-place l = (k : ℕ) → l.next ≤ k → k < l.place → flag l.seen (end_at l.links k) ≡ true

use Rattle.std.proofs.Common.{◌≡◌, ℕ, ◌+◌, true, length}
use Rattle.graph_search.specs.Descents.{flag, unmarked, IsDescent}
use Rattle.graph_search.proofs.descent.descend.Given as goal

abbrev pub invariant-loop-node : goal.invariant-loop-node
invariant-loop-node l = record {
  descent : IsDescent l.graph.links.items l.graph.starts.items l.seen.items l.next.items l.way.items l.done.items;
  kept : (v : ℕ) → flag l.fn.seen.items v ≡ true → flag l.seen.items v ≡ true;
  root : flag l.seen.items l.root ≡ true;
}

abbrev pub decreases-loop-node : goal.decreases-loop-node
decreases-loop-node l = unmarked l.seen.items + unmarked l.seen.items + length l.way.items

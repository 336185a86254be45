use Rattle.std.proofs.Common.{◌≡◌, ℕ, ◌<◌, true, []}
use Rattle.graph_search.specs.Descents.{flag, IsDescent}
use Rattle.graph_search.proofs.descent.finished.Given as goal

abbrev pub invariant-loop-root : goal.invariant-loop-root
invariant-loop-root l = record {
  descent : IsDescent l.graph.links.items l.graph.starts.items l.seen.items l.next.items [] l.done.items;
  before : (v : ℕ) → v < l.root → flag l.seen.items v ≡ true;
}

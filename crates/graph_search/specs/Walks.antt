-- Walks along links, and the lengths of the shortest.
use Rattle.std.specs.Prelude.{◌≡◌, ℕ, suc, ◌<◌, ◌≤◌, List}
use Rattle.std.specs.List.{Contains, slice_index_or}
use Rattle.graph_search.specs.declared.graph.Link.{Link}

-- so many links, one at least, lead from the node a to another, each from where the one before it ends
pub data Walk (links : List Link) (a : ℕ) : ℕ → ℕ → Type 0 where
  one : {l : Link} → Contains links l → l.from ≡ a → Walk links a 1 l.to
  more : {m b : ℕ} {l : Link} → Walk links a m b → Contains links l → l.from ≡ b → Walk links a (suc m) l.to

-- for each node the length of a shortest walk to it from a, and 0 where there is none
pub record AreDistances (links : List Link) (a : ℕ) (distances : List ℕ) : Type 0 where
  pub reached : (b : ℕ) → 0 < slice_index_or distances b 0 → Walk links a (slice_index_or distances b 0) b
  pub least : (m b : ℕ) → Walk links a m b → (0 < slice_index_or distances b 0) × (slice_index_or distances b 0 ≤ m)

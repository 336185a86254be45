-- Knots: strongly connected sets of nodes, where each node is reached from each.
use Rattle.std.specs.Prelude.{◌≡◌, ℕ, ◌<◌, List, length, ◌⊎◌}
use Rattle.std.specs.List.{slice_index_or}
use Rattle.graph_search.specs.declared.graph.Link.{Link}
use Rattle.graph_search.specs.Walks.{Walk}

-- b is a, or a walk leads there
abbrev pub IsReached : List Link → ℕ → ℕ → Type 0
IsReached links a b = (a ≡ b) ⊎ ((m : ℕ) × Walk links a m b)

-- each of the two nodes is reached from the other
pub record AreTied (links : List Link) (a b : ℕ) : Type 0 where
  pub forth : IsReached links a b
  pub back : IsReached links b a

-- for each node the number of its knot: two nodes have the same one exactly where each is reached from the other
pub record AreKnots (links : List Link) (knots : List ℕ) : Type 0 where
  pub within : (v : ℕ) → v < length knots → slice_index_or knots v 0 < length knots
  pub tied : (a b : ℕ) → a < length knots → b < length knots →
      slice_index_or knots a 0 ≡ slice_index_or knots b 0 → AreTied links a b
  pub same : (a b : ℕ) → a < length knots → b < length knots → AreTied links a b →
      slice_index_or knots a 0 ≡ slice_index_or knots b 0

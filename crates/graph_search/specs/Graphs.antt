-- Graphs: links between nodes, sorted by the node at which they begin.
use Rattle.std.specs.Prelude.{◌≡◌, ℕ, ◌+◌, ◌<◌, ◌≤◌, List, length}
use Rattle.std.specs.List.{All, Contains, slice_index_or, flat_map}
use Rattle.std.specs.declared.vec.Vec.{Vec}
use Rattle.std.specs.declared.alloc.Global.{Global}
use Rattle.std.specs.List.Sorted.{IsPartitionPoint, IsPermutation}
use Rattle.graph_search.specs.declared.graph.Link.{Link}
use Rattle.graph_search.specs.declared.graph.Graph.{Graph}

-- both ends are below the number of nodes
pub record IsWithin (nodes : ℕ) (l : Link) : Type 0 where
  pub from : l.from < nodes
  pub to : l.to < nodes

-- for each node, and for their number, how many links begin at lesser nodes
pub record AreStarts (nodes : ℕ) (links : List Link) (starts : List ℕ) : Type 0 where
  pub size : length starts ≡ nodes + 1
  pub within : (n : ℕ) → n ≤ nodes → slice_index_or starts n 0 ≤ length links
  pub parts : (n : ℕ) → n ≤ nodes → IsPartitionPoint (λ (l : Link). l.from < n) (λ (l : Link). n ≤ l.from) links (slice_index_or starts n 0)

-- a graph over so many nodes
pub record IsGraph (nodes : ℕ) (g : Graph) : Type 0 where
  pub within : All (IsWithin nodes) g.links.items
  pub starts : AreStarts nodes g.links.items g.starts.items

-- some of the links: those that begin at the node
pub record AreFrom (links : List Link) (node : ℕ) (own : List Link) : Type 0 where
  pub each : (l : Link) → Contains own l → Contains links l
  pub from : (l : Link) → Contains own l → l.from ≡ node
  pub all : (l : Link) → Contains links l → l.from ≡ node → Contains own l

-- the link the other way round
abbrev pub turn : Link → Link
turn l = record { from = l.to; to = l.from }

-- the links of all rows
abbrev pub row_links : List (Vec Link Global) → List Link
row_links rows = flat_map (λ (r : Vec Link Global). r.items) rows

-- for each node a row of the links that begin at it
pub record AreRows (nodes : ℕ) (links : List Link) (rows : List (Vec Link Global)) : Type 0 where
  pub size : length rows ≡ nodes
  pub same : IsPermutation links (row_links rows)
  pub own : (n : ℕ) (d : Vec Link Global) → n < nodes → All (λ (l : Link). l.from ≡ n) (slice_index_or rows n d).items

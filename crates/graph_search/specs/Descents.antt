-- What a depth-first walk knows on its way, and the order in which it leaves the nodes.
use Rattle.std.specs.Prelude.{◌≡◌, ℕ, ◌+◌, ◌<◌, ◌≤◌, List, length, Bool, true, false, not, ◌⊎◌, count_by}
use Rattle.std.specs.List.{Contains, slice_index_or}
use Rattle.graph_search.specs.declared.graph.Link.{Link}
use Rattle.graph_search.specs.Searches.{at}
use Rattle.graph_search.specs.Knots.{IsReached, AreTied}

abbrev pub flag : List Bool → ℕ → Bool
flag marks v = slice_index_or marks v false

-- the node to which the link at a place leads
abbrev pub end_at : List Link → ℕ → ℕ
end_at links k = (slice_index_or links k (record { from = 0; to = 0 })).to

-- how many nodes aren't marked
abbrev pub unmarked : List Bool → ℕ
unmarked marks = count_by (λ m. not m) marks

-- a node of the way and u are tied
pub record IsOpen (links : List Link) (way : List ℕ) (u : ℕ) : Type 0 where
  pub place : ℕ
  pub inside : place < length way
  pub tied : AreTied links (at way place) u

-- v is left, and some node that is tied with u is left no earlier: no place of v is behind its
pub record IsLater (links : List Link) (done : List ℕ) (u v : ℕ) : Type 0 where
  pub there : Contains done v
  pub place : ℕ
  pub inside : place < length done
  pub tied : AreTied links (at done place) u
  pub last : (k : ℕ) → k < length done → at done k ≡ v → k ≤ place

-- the walk went down the way, and has left the nodes of `done` in this order; of each node the links before `next` are
-- passed: they lead to nodes that are seen
pub record IsDescent (links : List Link) (starts : List ℕ) (seen : List Bool) (next way done : List ℕ) : Type 0 where
  pub size : length seen + 1 ≡ length starts
  pub places : length next ≡ length starts
  pub on_way : (v : ℕ) → Contains way v → flag seen v ≡ true
  pub in_done : (v : ℕ) → Contains done v → flag seen v ≡ true
  pub either : (v : ℕ) → flag seen v ≡ true → Contains way v ⊎ Contains done v
  pub bounds : (v : ℕ) → v < length seen → (at starts v ≤ at next v) × (at next v ≤ at starts (v + 1))
  pub passed : (v k : ℕ) → v < length seen → at starts v ≤ k → k < at next v → flag seen (end_at links k) ≡ true
  pub left : (l : Link) → Contains links l → Contains done l.from → flag seen l.to ≡ true
  pub leads : (i j : ℕ) → i < j → j < length way → IsReached links (at way i) (at way j)
  pub apart : (i j : ℕ) → i < j → j < length way → at way i ≡ at way j → ⊥
  pub other : (v : ℕ) → Contains way v → Contains done v → ⊥
  pub order : (u v : ℕ) → Contains done u → IsReached links u v → IsOpen links way u ⊎ IsLater links done u v

-- all nodes, in an order in which some node of u's knot stands at v or behind it, where u leads to v
pub record IsFinishing (links : List Link) (nodes : ℕ) (done : List ℕ) : Type 0 where
  pub within : (v : ℕ) → Contains done v → v < nodes
  pub all : (v : ℕ) → v < nodes → Contains done v
  pub order : (u v : ℕ) → u < nodes → IsReached links u v → IsLater links done u v

-- Edges as a graph over numbered addresses, and what is known while their knots are collected.
use Rattle.std.specs.Prelude.{◌≡◌, ℕ, ◌<◌, ◌≤◌, List, length, map, true, Bool, false}
use Rattle.std.specs.List.{Contains}
use Rattle.std.specs.List.Sorted.{IsStrictlyIncreasing}
use Rattle.graph_search.specs.declared.graph.Link.{Link}
use Rattle.graph_search.specs.Searches.{at}
use Rattle.graph_search.specs.Descents.{flag}
use Rattle.lock_order.specs.declared.edge.Edge.{Edge}
use Rattle.lock_order.specs.declared.cycle.Cycle.{Cycle}
use Rattle.lock_order.specs.Cycles.{Leads, Reaches, IsLeastOfKnot, IsCycleAt, start}

abbrev pub AreRising : List ℕ → Type 0
AreRising nodes = (i j : ℕ) → i < j → j < length nodes → at nodes i < at nodes j

-- the addresses of the edges, by rising value
pub record AreNodes (es : List Edge) (nodes : List ℕ) : Type 0 where
  pub rising : AreRising nodes
  pub from : (e : Edge) → Contains es e → Contains nodes e.from
  pub to : (e : Edge) → Contains es e → Contains nodes e.to

-- the number of an address
pub record IsNode (nodes : List ℕ) (a n : ℕ) : Type 0 where
  pub inside : n < length nodes
  pub is : at nodes n ≡ a

pub record IsLink (nodes : List ℕ) (e : Edge) (l : Link) : Type 0 where
  pub from : IsNode nodes e.from l.from
  pub to : IsNode nodes e.to l.to

-- the edges as links between numbers
pub record AreLinks (es : List Edge) (nodes : List ℕ) (links : List Link) : Type 0 where
  pub each : (l : Link) → Contains links l → (e : Edge) × Contains es e × IsLink nodes e l
  pub all : (e : Edge) → Contains es e → (l : Link) × Contains links l × IsLink nodes e l

-- for each node how few edges lead from it to the address a, one at least, and 0 where none do
pub record AreLeft (es : List Edge) (nodes : List ℕ) (a : ℕ) (left : List ℕ) : Type 0 where
  pub reached : (v : ℕ) → v < length nodes → 0 < at left v → (p : List Edge) × Leads es (at nodes v) a p × (length p ≡ at left v)
  pub least : (v : ℕ) (p : List Edge) → v < length nodes → 0 < length p → Leads es (at nodes v) a p →
      (0 < at left v) × (at left v ≤ length p)

-- behind the edge so many more lead to the address a, and no fewer do
pub record IsNear (nodes left : List ℕ) (a more : ℕ) (e : Edge) : Type 0 where
  pub last : more ≡ 0 → e.to ≡ a
  pub on : 0 < more → (n : ℕ) → IsNode nodes e.to n → at left n ≡ more

-- the first of the edges that lead on from an address
pub record IsNext (es : List Edge) (nodes left : List ℕ) (a here more : ℕ) (e : Edge) : Type 0 where
  pub there : Contains es e
  pub from : e.from ≡ here
  pub near : IsNear nodes left a more e
  pub first : (f : Edge) → Contains es f → f.from ≡ here → IsNear nodes left a more f → e.to ≤ f.to

-- there is an edge that leads on
pub record HasNext (es : List Edge) (nodes left : List ℕ) (a here more : ℕ) : Type 0 where
  pub edge : Edge
  pub there : Contains es edge
  pub from : edge.from ≡ here
  pub near : IsNear nodes left a more edge

-- each of the two addresses reaches the other
pub record AreTied (es : List Edge) (a b : ℕ) : Type 0 where
  pub forth : Reaches es a b
  pub back : Reaches es b a

-- each node has the number of its knot: two have the same one exactly where each reaches the other
pub record AreNumbered (es : List Edge) (nodes knots : List ℕ) : Type 0 where
  pub size : length knots ≡ length nodes
  pub tied : (i j : ℕ) → i < length nodes → j < length nodes → at knots i ≡ at knots j → (i ≡ j → ⊥) →
      AreTied es (at nodes i) (at nodes j)
  pub same : (i j : ℕ) → i < length nodes → j < length nodes →
      AreTied es (at nodes i) (at nodes j) → at knots i ≡ at knots j

-- for each number of a knot whether a link stays within it
pub record AreRinged (links : List Link) (knots : List ℕ) (ringed : List Bool) : Type 0 where
  pub size : length ringed ≡ length knots
  pub each : (n : ℕ) → flag ringed n ≡ true → (l : Link) × Contains links l × (at knots l.from ≡ n) × (at knots l.to ≡ n)
  pub all : (l : Link) → Contains links l → at knots l.from ≡ at knots l.to → flag ringed (at knots l.to) ≡ true

-- the knots of which the least address is among the first k nodes have their cycles, and wait no longer
pub record KnowsKnots (es : List Edge) (nodes knots : List ℕ) (k : ℕ) (waits : List Bool) (cs : List Cycle) : Type 0 where
  pub size : length waits ≡ length nodes
  pub waiting : (v : ℕ) → v < length nodes → flag waits (at knots v) ≡ true → Reaches es (at nodes v) (at nodes v)
  pub passed : (i : ℕ) → i < k → flag waits (at knots i) ≡ false
  pub told : (v : ℕ) → v < length nodes → Reaches es (at nodes v) (at nodes v) → flag waits (at knots v) ≡ false →
      (i : ℕ) × (i < k) × (at knots i ≡ at knots v)
  pub ordered : IsStrictlyIncreasing (map start cs)
  pub below : (c : Cycle) → Contains cs c → (i : ℕ) × (i < k) × (start c ≡ at nodes i)
  pub each : (c : Cycle) → Contains cs c → IsLeastOfKnot es (start c) × IsCycleAt es (start c) c.edges
  pub all : (i : ℕ) → i < k → IsLeastOfKnot es (at nodes i) → (c : Cycle) × Contains cs c × (start c ≡ at nodes i)

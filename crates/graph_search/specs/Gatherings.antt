-- What is known while the nodes of a knot are gathered, and while one knot after the other is.
use Rattle.std.specs.Prelude.{◌≡◌, ℕ, ◌+◌, ◌<◌, ◌≤◌, List, length, Bool, true, false, ◌⊎◌}
use Rattle.std.specs.List.{Contains}
use Rattle.graph_search.specs.declared.graph.Link.{Link}
use Rattle.graph_search.specs.Searches.{at}
use Rattle.graph_search.specs.Knots.{IsReached, AreTied}
use Rattle.graph_search.specs.Descents.{flag, unmarked}

-- the nodes to which the links lead are placed: those that were not have the number, and stand behind `ahead`
pub record Places (own : List Link) (root : ℕ) (placed : List Bool) (knots ahead : List ℕ) (placed' : List Bool)
    (knots' ahead' : List ℕ) : Type 0 where
  pub size : length placed' ≡ length placed
  pub long : length knots' ≡ length knots
  pub count : unmarked placed' + length ahead' ≡ unmarked placed + length ahead
  pub kept : (v : ℕ) → flag placed v ≡ true → flag placed' v ≡ true
  pub same : (v : ℕ) → flag placed v ≡ true → at knots' v ≡ at knots v
  pub numbered : (v : ℕ) → flag placed v ≡ false → flag placed' v ≡ true → at knots' v ≡ root
  pub opened : (v : ℕ) → flag placed v ≡ false → flag placed' v ≡ true → Contains ahead' v
  pub by : (v : ℕ) → flag placed v ≡ false → flag placed' v ≡ true → (l : Link) × Contains own l × (l.to ≡ v)
  pub all : (l : Link) → Contains own l → flag placed' l.to ≡ true
  pub stays : (v : ℕ) → Contains ahead v → Contains ahead' v
  pub only : (v : ℕ) → Contains ahead' v → Contains ahead v ⊎ ((flag placed v ≡ false) × (flag placed' v ≡ true))

-- nodes that weren't placed, and from which the root is reached, are: those of `ahead` may have links from some that aren't
pub record Gathers (links : List Link) (root : ℕ) (placed : List Bool) (knots : List ℕ) (placed' : List Bool)
    (knots' ahead : List ℕ) : Type 0 where
  pub size : length placed' ≡ length placed
  pub long : length knots' ≡ length knots
  pub kept : (v : ℕ) → flag placed v ≡ true → flag placed' v ≡ true
  pub same : (v : ℕ) → flag placed v ≡ true → at knots' v ≡ at knots v
  pub numbered : (v : ℕ) → flag placed v ≡ false → flag placed' v ≡ true → at knots' v ≡ root
  pub leads : (v : ℕ) → flag placed v ≡ false → flag placed' v ≡ true → IsReached links v root
  pub begun : flag placed' root ≡ true
  pub closed : (l : Link) → Contains links l → flag placed l.to ≡ false → flag placed' l.to ≡ true →
      Contains ahead l.to ⊎ (flag placed' l.from ≡ true)
  pub new : (v : ℕ) → Contains ahead v → (flag placed v ≡ false) × (flag placed' v ≡ true)

-- the nodes from place n of `done` on have the numbers of their knots, and with a node each that is tied with it
pub record KnowsKnots (links : List Link) (nodes : ℕ) (done : List ℕ) (n : ℕ) (placed : List Bool) (knots : List ℕ) : Type 0 where
  pub size : length placed ≡ nodes
  pub long : length knots ≡ nodes
  pub later : (k : ℕ) → n ≤ k → k < length done → flag placed (at done k) ≡ true
  pub within : (v : ℕ) → flag placed v ≡ true → at knots v < nodes
  pub tied : (v : ℕ) → flag placed v ≡ true → AreTied links (at knots v) v
  pub whole : (u v : ℕ) → flag placed u ≡ true → AreTied links u v → flag placed v ≡ true
  pub same : (u v : ℕ) → flag placed u ≡ true → AreTied links u v → at knots v ≡ at knots u

-- Knots of mutexes, and the cycle of each.
use Rattle.std.specs.Prelude.{◌≡◌, ℕ, ◌<◌, ◌≤◌, List, [], ◌∷◌, length, map, false}
use Rattle.std.specs.List.{Contains}
use Rattle.std.specs.List.Sorted.{IsStrictlySortedBy}
use Rattle.std.specs.Ordering.{nat_cmp, is_lt}
use Rattle.std.specs.Cmp.Lexicographic.{slice_cmp}
use Rattle.lock_order.specs.declared.edge.Edge.{Edge}
use Rattle.lock_order.specs.declared.cycle.Cycle.{Cycle}

-- some of the edges lead from the first address to the second: each begins where the one before it ends
abbrev pub Leads : List Edge → ℕ → ℕ → List Edge → Type 0
Leads es a b [] = a ≡ b
Leads es a b (e ∷ p) = Contains es e × (e.from ≡ a) × Leads es e.to b p

-- one or more edges lead from a to b
pub record Reaches (es : List Edge) (a b : ℕ) : Type 0 where
  pub way : List Edge
  pub some : 0 < length way
  pub leads : Leads es a b way

-- a is the least address of a knot: of all that reach a and are reached by it
pub record IsLeastOfKnot (es : List Edge) (a : ℕ) : Type 0 where
  pub around : Reaches es a a
  pub least : (b : ℕ) → Reaches es a b → Reaches es b a → a ≤ b

-- the addresses at which the edges begin, in order
abbrev pub addresses : List Edge → List ℕ
addresses p = map (λ (e : Edge). e.from) p

-- p leads round from a to a, no shorter list does, and of those as short none comes before it in dictionary order
pub record IsCycleAt (es : List Edge) (a : ℕ) (p : List Edge) : Type 0 where
  pub some : 0 < length p
  pub around : Leads es a a p
  pub shortest : (q : List Edge) → 0 < length q → Leads es a a q → length p ≤ length q
  pub first : (q : List Edge) → Leads es a a q → length q ≡ length p →
      is_lt (slice_cmp nat_cmp (addresses q) (addresses p)) ≡ false

abbrev pub first_from : List Edge → ℕ
first_from [] = 0
first_from (e ∷ p) = e.from

-- the address at which a cycle begins
abbrev pub start : Cycle → ℕ
start c = first_from c.edges

-- one cycle for each knot, by rising least address
pub record AreCycles (es : List Edge) (cs : List Cycle) : Type 0 where
  pub ordered : IsStrictlySortedBy nat_cmp (map start cs)
  pub each : (c : Cycle) → Contains cs c → IsLeastOfKnot es (start c) × IsCycleAt es (start c) c.edges
  pub all : (a : ℕ) → IsLeastOfKnot es a → (c : Cycle) × Contains cs c × (start c ≡ a)

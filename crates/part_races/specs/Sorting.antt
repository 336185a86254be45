-- The accesses that await, sorted by the stamps and threads of their entries.
use Rattle.std.specs.Prelude.{◌≡◌, ◌<◌, ◌≤◌, ◌⊎◌, ◌==◌, ◌&&◌, ℕ, Bool, List, map, filter}
use Rattle.std.specs.List.{flat_map}
use Rattle.report_laws.specs.Awaited.{Awaited}
use Rattle.turn_orders.specs.Lists.{InOrder}
use Rattle.part_races.specs.Rounds.{Tagged}

-- an access that awaits, with the stamp and the thread of its entry
pub record Keyed : Type 0 where
  pub stamp : ℕ
  pub thread : ℕ
  pub awaited : Awaited

abbrev pub keyed_of : Tagged → List Keyed
keyed_of x = map (λ (a : Awaited). record { stamp = x.entry.stamp; thread = x.entry.tid; awaited = a }) x.awaited

abbrev pub all_keyed : List Tagged → List Keyed
all_keyed xs = flat_map keyed_of xs

abbrev pub awaited_in : List Keyed → List Awaited
awaited_in xs = map (λ (x : Keyed). x.awaited) xs

-- the entry of x doesn't come after that of y
abbrev pub IsNotLater : Keyed → Keyed → Type 0
IsNotLater x y = (x.stamp < y.stamp) ⊎ ((x.stamp ≡ y.stamp) × (x.thread ≤ y.thread))

abbrev pub has_key : ℕ → ℕ → Keyed → Bool
has_key stamp thread x = (x.stamp == stamp) && (x.thread == thread)

-- These are those, sorted so. Those of one entry stay in their order.
pub record AreSorted (xs ys : List Keyed) : Type 0 where
  pub order : InOrder IsNotLater ys
  pub stable : (stamp thread : ℕ) → filter (has_key stamp thread) ys ≡ filter (has_key stamp thread) xs

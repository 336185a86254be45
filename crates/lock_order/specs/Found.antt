-- What is known while the edges of a history are collected.
use Rattle.std.specs.Prelude.{◌≡◌, ℕ, ◌<◌, List, length, Option, Some, None}
use Rattle.std.specs.BTreeMap.{BTreeMap, get}
use Rattle.run_laws.specs.Moments.{Moment}
use Rattle.kept_locks.specs.declared.held.Held.{Held}
use Rattle.kept_locks.specs.Held.{AreKept}
use Rattle.lock_order.specs.declared.edge.Edge.{Edge}
use Rattle.lock_order.specs.Edges.{taker, pair_order}

-- the thread that takes `to` first, where it keeps `from`
abbrev pub first_by : BTreeMap (ℕ × ℕ) ℕ → ℕ → ℕ → Option ℕ
first_by found from to = get pair_order found (from, to)

-- the edge of an entry
abbrev pub edge_of : (ℕ × ℕ) × ℕ → Edge
edge_of e = record { from = e.0.0; to = e.0.1; tid = e.1 }

-- the first, or else the second
abbrev pub or_else : Option ℕ → Option ℕ → Option ℕ
or_else (Some x) other = Some x
or_else None other = other

-- the answer is the first thread that takes `to` in the history while it keeps `from`
abbrev pub IsFirst : List Moment → ℕ → ℕ → Option ℕ → Type 0
IsFirst h from to None = (n : ℕ) → taker h n from to ≡ None
IsFirst h from to (Some t) = (place : ℕ) × (taker h place from to ≡ Some t) × ((n : ℕ) → n < place → taker h n from to ≡ None)

-- the locks and the edges are those of the history
pub record Follows (h : List Moment) (held : List Held) (found : BTreeMap (ℕ × ℕ) ℕ) : Type 0 where
  pub locks : AreKept h (length h) held
  pub first : (from to : ℕ) → IsFirst h from to (first_by found from to)

-- Which mutexes were taken while another one was kept.
use Rattle.std.specs.Prelude.{◌≡◌, ℕ, ◌<◌, ◌==◌, ◌&&◌, not, Bool, false, if◌then◌else◌, List, map, Option, Some, None}
use Rattle.std.specs.List.{list_any, Contains}
use Rattle.std.specs.List.Sorted.{IsStrictlySortedBy}
use Rattle.std.specs.Ordering.{nat_cmp, ordering_then}
use Rattle.std.specs.declared.cmp.Ordering.{Ordering}
use Rattle.run_record.specs.declared.event.Event.{Event}
use Rattle.run_record.specs.declared.event.Event.TheVariants.{Lock}
use Rattle.run_record.specs.declared.report.KeptLock.{KeptLock}
use Rattle.run_laws.specs.Moments.{Item, Does, Moment, items}
use Rattle.run_laws.specs.Stacks.{kept_locks}
use Rattle.lock_order.specs.declared.edge.Edge.{Edge}

-- whether a lock of that address is among the locks
abbrev pub has_address : List KeptLock → ℕ → Bool
has_address locks addr = list_any (λ (l : KeptLock). l.addr == addr) locks

-- the event takes the mutex `to`, to read or to write, and the locks have another mutex `from`
abbrev pub takes : ℕ → ℕ → List KeptLock → Event → Bool
takes from to locks (Lock addr read) = ((addr == to) && not (from == to)) && has_address locks from
takes from to locks _ = false

-- the thread that takes the mutex `to` by the item, and keeps another mutex `from`, where each thread keeps those locks
abbrev pub taker_by : (ℕ → List KeptLock) → Item → ℕ → ℕ → Option ℕ
taker_by locks (Does t event) from to = if takes from to (locks t) event then Some t else None
taker_by locks _ from to = None

-- the thread that takes the mutex `to` at position n of the history, and keeps another mutex `from` there
abbrev pub taker : List Moment → ℕ → ℕ → ℕ → Option ℕ
taker h n from to = taker_by (kept_locks h n) (items h n) from to

-- the edge is of the history: somewhere `to` was taken while `from` was kept, and first so by this thread
pub record IsEdge (h : List Moment) (e : Edge) : Type 0 where
  pub place : ℕ
  pub taken : taker h place e.from e.to ≡ Some e.tid
  pub first : (n : ℕ) → n < place → taker h n e.from e.to ≡ None

-- pairs of addresses, by the first and then by the second
abbrev pub pair_order : ℕ × ℕ → ℕ × ℕ → Ordering
pair_order p q = ordering_then (nat_cmp p.0 q.0) (nat_cmp p.1 q.1)

abbrev pub ends : Edge → ℕ × ℕ
ends e = (e.from, e.to)

-- the edges stand by rising addresses, one for each pair
abbrev pub AreOrdered : List Edge → Type 0
AreOrdered es = IsStrictlySortedBy pair_order (map ends es)

-- the edges are those of the history
pub record AreEdges (h : List Moment) (es : List Edge) : Type 0 where
  pub ordered : AreOrdered es
  pub each : (e : Edge) → Contains es e → IsEdge h e
  pub all : (e : Edge) → IsEdge h e → Contains es e

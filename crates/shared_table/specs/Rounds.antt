-- What a round of workers leaves.
use Rattle.std.specs.Prelude.{◌≡◌, ℕ, zero, suc, ◌+◌, ◌<◌, List, [], ◌∷◌, map, length, slice_index_or, Some}
use mathlib.Core.Option.{some}
use lib.ListN.{get_elem?}
use Rattle.shared_table.specs.declared.view.View.{View}
use Rattle.shared_table.specs.declared.view.Item.TheVariants.{Split, Join}
use Rattle.shared_table.specs.declared.workers.Part.{Part}
use Rattle.shared_table.specs.Layouts.{SharedTable}
use Rattle.shared_table.specs.Past.{Log}
use Rattle.shared_table.specs.Seats.{IsSeatOf, IsFree}

-- so many seats are made, from that number on
abbrev pub splits_from : ℕ → ℕ → Log
splits_from n zero = []
splits_from n (suc k) = Split n ∷ splits_from (n + 1) k

-- and joined
abbrev pub joins_from : ℕ → ℕ → Log
joins_from n zero = []
joins_from n (suc k) = Join n ∷ joins_from (n + 1) k

-- n more seats were made, and the logs that were there stay
abbrev pub Grown : ℕ → View → View → Type 0
Grown n v w = (length w.logs ≡ length v.logs + n) × ((i : ℕ) → i < length v.logs → get_elem? w.logs i ≡ get_elem? v.logs i)

module _ {W : Type 0} where
  abbrev pub log : Part W → Log
  log p = p.seat.me.0.log

  abbrev pub worker_of : Part W → W
  worker_of p = p.worker

  abbrev pub number : Part W → ℕ
  number p = p.seat.me.0.number

  -- the worker has a new seat and may work
  pub record IsReady (can : SharedTable → W → Type 0) (t : SharedTable) (p : Part W) : Type 0 where
    pub own : IsSeatOf t p.seat
    pub free : IsFree p.seat.me
    pub new : log p ≡ []
    pub may : can t p.worker

  -- the worker did its part
  pub record Did (works : SharedTable → W → Log → W → Type 0) (t : SharedTable) (p q : Part W) : Type 0 where
    pub own : IsSeatOf t q.seat
    pub free : IsFree q.seat.me
    pub same_number : number q ≡ number p
    pub worked : works t p.worker (log q) q.worker

  -- the workers have new seats with the numbers from m on
  pub record AreOpened (t : SharedTable) (m : ℕ) (workers : List W) (parts : List (Part W)) : Type 0 where
    pub workers_are : map worker_of parts ≡ workers
    pub seats : (i : ℕ) (d : Part W) → i < length parts → IsSeatOf t (slice_index_or parts i d).seat × IsFree (slice_index_or parts i d).seat.me × (log (slice_index_or parts i d) ≡ []) × (number (slice_index_or parts i d) ≡ m + i)

  abbrev pub AreReady : (SharedTable → W → Type 0) → SharedTable → List (Part W) → Type 0
  AreReady can t parts = (i : ℕ) (d : Part W) → i < length parts → IsReady can t (slice_index_or parts i d)

  -- each worker did its part
  abbrev pub Ran : (SharedTable → W → Log → W → Type 0) → SharedTable → List (Part W) → List (Part W) → Type 0
  Ran works t ps qs = (i : ℕ) (d : Part W) → i < length ps → Did works t (slice_index_or ps i d) (slice_index_or qs i d)

  -- the seats may be joined, and have the numbers from m on
  abbrev pub AreBack : SharedTable → ℕ → List (Part W) → Type 0
  AreBack t m parts = (i : ℕ) (d : Part W) → i < length parts → IsSeatOf t (slice_index_or parts i d).seat × IsFree (slice_index_or parts i d).seat.me × (number (slice_index_or parts i d) ≡ m + i)

  -- the opening seat has the logs that it had, and from the number m on those of the parts
  abbrev pub HasLogs : ℕ → List (Part W) → View → View → Type 0
  HasLogs m parts v w =
      (length w.logs ≡ length v.logs) × ((i : ℕ) → i < m → get_elem? w.logs i ≡ get_elem? v.logs i)
      × ((i : ℕ) (d : Part W) → i < length parts → get_elem? w.logs (m + i) ≡ some (Some (log (slice_index_or parts i d))))

  -- Each worker did its part, and the opening seat has its log, under the numbers that come after those that were made. All logs that it had stay.
  pub record HasRound (works : SharedTable → W → Log → W → Type 0) (t : SharedTable) (v w : View) (before after : List W) : Type 0 where
    pub same_count : length after ≡ length before
    pub grown : Grown (length before) v w
    pub worked : (i : ℕ) (d : W) → i < length before → (l : Log) × (get_elem? w.logs (length v.logs + i) ≡ some (Some l)) × works t (slice_index_or before i d) l (slice_index_or after i d)

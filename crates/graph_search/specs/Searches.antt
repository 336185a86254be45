-- What a breadth-first search knows on its way.
use Rattle.std.specs.Prelude.{◌≡◌, ℕ, suc, ◌+◌, ◌<◌, ◌≤◌, ◌==◌, List, length, count_by}
use Rattle.std.specs.List.{Contains, slice_index_or}
use Rattle.graph_search.specs.declared.graph.Link.{Link}
use Rattle.graph_search.specs.Walks.{Walk}

abbrev pub at : List ℕ → ℕ → ℕ
at xs i = slice_index_or xs i 0

-- how many nodes have no distance
abbrev pub zeros : List ℕ → ℕ
zeros ds = count_by (λ d. d == 0) ds

-- the nodes to which the links lead, and that had no distance, have the next one, and stand behind the queue
pub record Spreads (links : List Link) (next : ℕ) (ds queue ds' queue' : List ℕ) : Type 0 where
  pub size : length ds' ≡ length ds
  pub count : zeros ds' + length queue' ≡ zeros ds + length queue
  pub kept : (v : ℕ) → 0 < at ds v → at ds' v ≡ at ds v
  pub new : (v : ℕ) → at ds v ≡ 0 → 0 < at ds' v → at ds' v ≡ next
  pub by : (v : ℕ) → at ds v ≡ 0 → 0 < at ds' v → (l : Link) × Contains links l × (l.to ≡ v)
  pub queued : (v : ℕ) → at ds v ≡ 0 → 0 < at ds' v → Contains queue' v
  pub all : (l : Link) → Contains links l → 0 < at ds' l.to
  pub grown : length queue ≤ length queue'
  pub same : (i : ℕ) → i < length queue → at queue' i ≡ at queue i
  pub fresh : (i : ℕ) → length queue ≤ i → i < length queue' → at ds' (at queue' i) ≡ next

-- the nodes before `head` in the queue are done: where their links lead has a distance
pub record Searches (links : List Link) (a head : ℕ) (ds queue : List ℕ) : Type 0 where
  pub sound : (v : ℕ) → 0 < at ds v → Walk links a (at ds v) v
  pub count : zeros ds + length queue ≡ length ds
  pub queued : (v : ℕ) → 0 < at ds v → Contains queue v
  pub reached : (i : ℕ) → i < length queue → 0 < at ds (at queue i)
  pub rising : (i j : ℕ) → i ≤ j → j < length queue → at ds (at queue i) ≤ at ds (at queue j)
  pub near : head < length queue → (j : ℕ) → j < length queue → at ds (at queue j) ≤ suc (at ds (at queue head))
  pub short : (i : ℕ) → i < length queue → at ds (at queue i) ≤ suc i
  pub first : (l : Link) → Contains links l → l.from ≡ a → (0 < at ds l.to) × (at ds l.to ≤ 1)
  pub closed : (i : ℕ) → i < head → (l : Link) → Contains links l → l.from ≡ at queue i →
      (0 < at ds l.to) × (at ds l.to ≤ suc (at ds (at queue i)))
  pub within : head ≤ length queue

-- The order of a history's entries.
use Rattle.std.specs.Prelude.{◌≡◌, ◌<◌, ◌⊎◌, ◌++◌, List, AllPairs, flat_map, IsPermutation}
use Rattle.run_record.specs.declared.entry.Entry.{Entry}

-- d stands before e: it has the lesser stamp, or the same stamp and the lesser thread
abbrev pub Precedes : Entry → Entry → Type 0
Precedes d e = (d.stamp < e.stamp) ⊎ ((d.stamp ≡ e.stamp) × (d.tid < e.tid))

-- each entry stands before all later ones
abbrev pub AreOrdered : List Entry → Type 0
AreOrdered entries = AllPairs Precedes entries

-- no two entries have the same stamp and the same thread
abbrev pub AreDistinct : List Entry → Type 0
AreDistinct entries = AllPairs (λ d e. ¬ ((d.stamp ≡ e.stamp) × (d.tid ≡ e.tid))) entries

-- the entries of all logs, log after log
abbrev pub entries_in : List (List Entry) → List Entry
entries_in logs = flat_map (λ (log : List Entry). log) logs

-- Behind the old entries the new ones have those of all logs, in their order.
pub record AppendsMerged (old new : List Entry) (logs : List (List Entry)) : Type 0 where
  pub merged : List Entry
  pub all : new ≡ old ++ merged
  pub same : IsPermutation (entries_in logs) merged
  pub ordered : AreOrdered merged

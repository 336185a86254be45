-- The deeds of a round in the order in which the logs of its workers are merged.
use Rattle.std.specs.Prelude.{◌≡◌, ◌≢◌, ◌<◌, ℕ, IsPermutation, List, [], ◌∷◌, map}
use Rattle.run_record.specs.declared.entry.Entry.{Entry}
use Rattle.bare_machine.specs.Step.{desk}
use Rattle.turn_orders.specs.Lists.{InOrder}
use Rattle.turn_orders.specs.LineUp.{of_thread, IsSorted}
use Rattle.deed_histories.specs.Lines.{HandDeed, entries_of}
use Rattle.deed_histories.specs.Rounds.{hand_stamp}

-- no thread is told twice
abbrev pub AreApart : List ℕ → Type 0
AreApart threads = InOrder (λ (t u : ℕ). t ≢ u) threads

-- the log of each of these threads: the entries of its deeds
abbrev pub logs_of : List ℕ → List HandDeed → List (List Entry)
logs_of threads ds = map (λ (t : ℕ). entries_of (of_thread t ds)) threads

-- these deeds, as these entries list them: sorted by stamp and then by thread
pub record IsListed (ds : List HandDeed) (es : List Entry) : Type 0 where
  pub listed : List HandDeed
  pub permuted : IsPermutation ds listed
  pub entries : entries_of listed ≡ es
  pub sorted : IsSorted hand_stamp listed

-- among the deeds of one thread, one that uses no object is the last
abbrev pub EndsAlone : List HandDeed → Type 0
EndsAlone [] = Unit {0}
EndsAlone (d ∷ ds) = (desk < d.call.place → ds ≡ []) × EndsAlone ds

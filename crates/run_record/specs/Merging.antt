-- Which of several rests comes next.
use Rattle.std.specs.Prelude.{◌≡◌, ℕ, ◌<◌, ◌≤◌, ◌⊎◌, List, [], ◌∷◌, map, slice_index_or, All, Option, None, Some}
use Rattle.run_record.specs.declared.entry.Entry.{Entry}
use Rattle.run_record.specs.declared.flat.Head.{Head}
use Rattle.run_record.specs.declared.flat.Row.{Row}
use Rattle.run_record.specs.declared.rest.Rest.{Rest}
use Rattle.run_record.specs.declared.merged.Choice.{Choice}
use Rattle.run_record.specs.Rest.{rest_entries, IsRest}

-- an entry with this head stands before one with that head, or may have the same
abbrev pub IsBefore : Head → Head → Type 0
IsBefore h g = (h.stamp < g.stamp) ⊎ ((h.stamp ≡ g.stamp) × (h.tid < g.tid))

abbrev pub IsUpto : Head → Head → Type 0
IsUpto h g = (h.stamp < g.stamp) ⊎ ((h.stamp ≡ g.stamp) × (h.tid ≤ g.tid))

abbrev pub IsUptoLimit : Head → Option Head → Type 0
IsUptoLimit h None = Unit {0}
IsUptoLimit h (Some g) = IsUpto h g

-- the first of the rows, if there is one, isn't before the limit
abbrev pub IsLimitOf : Option Head → List Row → Type 0
IsLimitOf limit [] = Unit {0}
IsLimitOf None (r ∷ rows) = ⊥
IsLimitOf (Some g) (r ∷ rows) = IsUpto g r.head

-- there is a first row, which has that head
abbrev pub BeginWith : Head → List Row → Type 0
BeginWith h [] = ⊥
BeginWith h (r ∷ rows) = r.head ≡ h

abbrev pub IsFirst : List Rest → ℕ → Head → Type 0
IsFirst rests n h = (d : Rest) → BeginWith h (slice_index_or rests n d).rows.now

-- the choice among the first n rests
pub record IsChosen (rests : List Rest) (n : ℕ) (c : Choice) : Type 0 where
  pub within : c.index < n
  pub first : IsFirst rests c.index c.head
  pub upto : IsUptoLimit c.head c.limit
  pub others : (k : ℕ) (d : Rest) → k < n → ¬ (k ≡ c.index) → IsLimitOf c.limit (slice_index_or rests k d).rows.now

abbrev pub IsChosenBelow : List Rest → ℕ → Option Choice → Type 0
IsChosenBelow rests n None = (k : ℕ) (d : Rest) → k < n → (slice_index_or rests k d).rows.now ≡ []
IsChosenBelow rests n (Some c) = IsChosen rests n c

-- all entries of the logs are left
pub record AreRestsOf (logs : List (List Entry)) (rests : List Rest) : Type 0 where
  pub same : map rest_entries rests ≡ logs
  pub are : All IsRest rests

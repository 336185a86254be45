-- Which pairs of code places race in a history.
use Rattle.std.specs.Prelude.{◌≡◌, ℕ, ◌<◌, ◌≤◌, ◌==◌, ◌&&◌, ◌||◌, ◌⊎◌, nat_lt, min, max, Bool, List, Option, length, slice_index_or, AllPairs}
use Rattle.run_record.specs.declared.entry.Entry.{Entry}
use Rattle.run_laws.specs.Moments.{moments, items}
use Rattle.run_laws.specs.HappensBefore.{HappensBefore}
use Rattle.run_laws.specs.Accesses.{Access, Conflict}
use Rattle.run_laws.specs.Reports.{MakesAccess}
use Rattle.report_text.specs.declared.pair.Pair.{Pair}

-- The places p and q, p at most q, race in the history: two of its accesses have these places, conflict, and neither happens
-- before the other. granule_of tells the granule that begins at an address.
pub record IsRacingPair (granule_of : ℕ → Option ℕ) (entries : List Entry) (p q : ℕ) : Type 0 where
  pub ordered : p ≤ q
  pub low_at : ℕ
  pub low_tid : ℕ
  pub low : Access
  pub low_made : MakesAccess (moments entries) low_at low_tid low
  pub low_place : low.place ≡ p
  pub high_at : ℕ
  pub high_tid : ℕ
  pub high : Access
  pub high_made : MakesAccess (moments entries) high_at high_tid high
  pub high_place : high.place ≡ q
  pub conflict : Conflict granule_of low_tid low high_tid high
  pub not_before : HappensBefore (items (moments entries)) low_at high_at → ⊥
  pub not_after : HappensBefore (items (moments entries)) high_at low_at → ⊥

-- a pair stands before another: its low is less, or its high where the lows are equal
abbrev pub IsLower : Pair → Pair → Type 0
IsLower a b = (a.low < b.low) ⊎ ((a.low ≡ b.low) × (a.high < b.high))

abbrev pub is_lower : Pair → Pair → Bool
is_lower a b = nat_lt a.low b.low || ((a.low == b.low) && nat_lt a.high b.high)

-- each pair once, by rising low, then high
abbrev pub AreRisingPairs : List Pair → Type 0
AreRisingPairs pairs = AllPairs IsLower pairs

-- the pair of two places
abbrev pub pair_of : ℕ → ℕ → Pair
pair_of p q = record { low = min p q; high = max p q }

-- as many of the pairs stand before this one, and no other does
pub record IsPlaceAmong (pairs : List Pair) (pair : Pair) (at : ℕ) : Type 0 where
  pub within : at ≤ length pairs
  pub before : (k : ℕ) (d : Pair) → k < at → IsLower (slice_index_or pairs k d) pair
  pub after : (k : ℕ) (d : Pair) → at ≤ k → k < length pairs → IsLower (slice_index_or pairs k d) pair → ⊥

-- Ranges of memory, and the granules of the writable ones.
use Rattle.std.specs.Prelude.{◌≡◌, ℕ, ◌<◌, ◌≤◌, ◌+◌, ◌-◌, ◌*◌, ◌/◌, ◌&&◌, Bool, not, nat_lt, nat_le, if◌then◌else◌, List, [], ◌∷◌, length, take, slice_index, slice_index_or, true, sum_by, Option, Some, None}
use Rattle.std.specs.List.{list_any}
use Rattle.std.specs.Option.{option_map}
use Rattle.elf_image.specs.declared.region.Region.{Region}

-- the address stands in the region
abbrev pub contains : Region → ℕ → Bool
contains r a = nat_le r.start a && nat_lt a r.end

-- so many bytes from an address on stand in the region
abbrev pub has_bytes : Region → ℕ → ℕ → Bool
has_bytes r a n = nat_le r.start a && nat_le (a + n) r.end

-- the two share an address
abbrev pub overlaps : Region → Region → Bool
overlaps r s = nat_lt r.start s.end && nat_lt s.start r.end

-- how many bytes a region takes
abbrev pub size : Region → ℕ
size r = r.end - r.start

-- the eight aligned bytes round an address
abbrev pub block : ℕ → ℕ
block a = 8 * (a / 8)

-- a region is whole blocks, and not empty
pub record IsBlocks (r : Region) : Type 0 where
  pub rises : r.start < r.end
  pub start_is : block r.start ≡ r.start
  pub end_is : block r.end ≡ r.end

-- regions by rising address, each apart from the next, from an address on
abbrev pub RisesFrom : ℕ → List Region → Type 0
RisesFrom low [] = Unit {0}
RisesFrom low (r ∷ rs) = (low ≤ r.start) × IsBlocks r × RisesFrom r.end rs

-- an address of a writable region, of one that isn't writable, and of four bytes of code
abbrev pub is_writable_in : List Region → ℕ → Bool
is_writable_in rs a = list_any (λ r. r.writable && contains r a) rs

abbrev pub is_constant_in : List Region → ℕ → Bool
is_constant_in rs a = list_any (λ r. not r.writable && contains r a) rs

abbrev pub is_code_in : List Region → ℕ → Bool
is_code_in rs a = list_any (λ r. r.executable && has_bytes r a 4) rs

-- how many granules a region has: each is eight aligned bytes of a writable region
abbrev pub granules_in : Region → ℕ
granules_in r = if r.writable then size r / 8 else 0

abbrev pub granule_count : List Region → ℕ
granule_count rs = sum_by granules_in rs

-- the granule of an address: the first region's granules come first
abbrev pub granule_in : List Region → ℕ → Option ℕ
granule_in [] a = None
granule_in (r ∷ rs) a =
    if contains r a
    then (if r.writable then Some ((a - r.start) / 8) else None)
    else option_map (λ g. granules_in r + g) (granule_in rs a)

-- the address of a granule, and 0 of a number that none has
abbrev pub granule_start : List Region → ℕ → ℕ
granule_start [] g = 0
granule_start (r ∷ rs) g =
    if nat_lt g (granules_in r) then r.start + 8 * g else granule_start rs (g - granules_in r)

-- region k has the address
pub record IsAt (rs : List Region) (a k : ℕ) : Type 0 where
  pub in_range : k < length rs
  pub here : (d : Region) → contains (slice_index_or rs k d) a ≡ true

-- region k has the granule
pub record IsHome (rs : List Region) (g k : ℕ) : Type 0 where
  pub in_range : k < length rs
  pub low : granule_count (take k rs) ≤ g
  pub high : g < granule_count (take (k + 1) rs)

-- the number of each region's first granule, and at the end how many there are
pub record FirstGranules (rs : List Region) (firsts : List ℕ) : Type 0 where
  pub count : length firsts ≡ length rs + 1
  pub at : (k : ℕ) → k ≤ length rs → slice_index firsts k ≡ granule_count (take k rs)

-- some region begins below the end of the one before it, and none does
pub record IsTouched (rs : List Region) : Type 0 where
  pub index : ℕ
  pub in_range : index + 1 < length rs
  pub below : (d : Region) → (slice_index_or rs (index + 1) d).start < (slice_index_or rs index d).end

abbrev pub AreApart : List Region → Type 0
AreApart rs = (k : ℕ) (d : Region) → k + 1 < length rs → (slice_index_or rs k d).end ≤ (slice_index_or rs (k + 1) d).start

-- What a check may load.
use Rattle.std.specs.Prelude.{◌≡◌, ◌≢◌, ◌<◌, ◌⊎◌, ℕ, ◌==◌, ◌&&◌, if◌then◌else◌, List, Some, None, Contains, slice_get, take, fold, flat_map}
use Rattle.run_record.specs.declared.entry.Check.{Check}
use Rattle.run_laws.specs.Moments.{Moment, moment_at, items}
use Rattle.run_laws.specs.SlotOrder.{SlotBefore}

-- x is earlier than y: in an earlier round, or before it in slot order
abbrev pub IsEarlier : ℕ → List Moment → ℕ → ℕ → Type 0
IsEarlier g h x y = ((moment_at h x).round < (moment_at h y).round) ⊎ SlotBefore g (items h) x y

-- the access at x stored the word in the cell of the granule
pub record Stored (h : List Moment) (x granule cell word : ℕ) : Type 0 where
  pub check : Check
  pub among : Contains (moment_at h x).checks check
  pub on_granule : check.granule ≡ granule
  pub stored : check.stored ≡ Some (cell, word)

-- The access at a may find the cell empty: no earlier access stored in it.
abbrev pub FindsEmpty : ℕ → List Moment → ℕ → ℕ → ℕ → Type 0
FindsEmpty g h a granule cell = (x word : ℕ) → Stored h x granule cell word → IsEarlier g h x a → ⊥

-- The access at a may find the word: another access stored it, a isn't earlier than that one, and no store in
-- the cell is later than that one and earlier than a.
pub record FindsWord (g : ℕ) (h : List Moment) (a granule cell word : ℕ) : Type 0 where
  pub source : ℕ
  pub stored : Stored h source granule cell word
  pub another : source ≢ a
  pub not_later : IsEarlier g h a source → ⊥
  pub not_overwritten : (x other : ℕ) → Stored h x granule cell other → IsEarlier g h source x → IsEarlier g h x a → ⊥

-- each of the four words that the check loaded is one that it may find
abbrev pub LoadsRightly : ℕ → List Moment → ℕ → Check → Type 0
LoadsRightly g h a c =
    (cell word : ℕ) → slice_get c.cells cell ≡ Some word → ((word ≡ 0) × FindsEmpty g h a c.granule cell) ⊎ ((word ≢ 0) × FindsWord g h a c.granule cell word)

-- each check of an access does
abbrev pub AllLoadRightly : ℕ → List Moment → Type 0
AllLoadRightly g h = (a : ℕ) (c : Check) → Contains (moment_at h a).checks c → LoadsRightly g h a c

-- the word in the cell after a check
abbrev pub cell_after : ℕ → ℕ → ℕ → Check → ℕ
cell_after granule cell word c = elim c.stored [ Some s ↦ (if (c.granule == granule) && (s.0 == cell) then s.1 else word) | None ↦ word ]

-- the word in the cell before position n: the last one that was stored there, or 0
abbrev pub cell_before : List Moment → ℕ → ℕ → ℕ → ℕ
cell_before h granule cell n = fold (cell_after granule cell) 0 (flat_map (λ (m : Moment). m.checks) (take n h))

-- where one thread is stepped at a time, each loaded word is the one in the cell
abbrev pub AllLoadLast : List Moment → Type 0
AllLoadLast h = (a : ℕ) (c : Check) → Contains (moment_at h a).checks c → (cell word : ℕ) → slice_get c.cells cell ≡ Some word → word ≡ cell_before h c.granule cell a

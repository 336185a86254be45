-- The first events of two chains that are in no order.
use Rattle.std.specs.Prelude.{◌≡◌, ℕ, ◌+◌, ◌<◌, ◌≤◌, ◌⊎◌, List, length, slice_index_or, Contains, Option, Some, None}
use Rattle.run_record.specs.declared.entry.Entry.{Entry}
use Rattle.run_laws.specs.Moments.{Item}
use Rattle.offline_audit.specs.declared.order.EventName.{EventName}
use Rattle.offline_audit.specs.declared.earliest.Apart.{Apart}
use Rattle.offline_audit.specs.Chains.{position_of, ComesBefore, AreOrdered}

-- the name is the first of these whose event doesn't happen before the given one
pub record IsFirstNot (h : ℕ → Item) (entries : List Entry) (names : List EventName) (name found : EventName) : Type 0 where
  pub at : ℕ
  pub within : at < length names
  pub is : (d : EventName) → slice_index_or names at d ≡ found
  pub not_before : ComesBefore h entries found name → ⊥
  pub rest : (k : ℕ) (d : EventName) → k < at → ComesBefore h entries (slice_index_or names k d) name

-- the answer is the first of these whose event doesn't happen before the given one, and none where all do
abbrev pub IsFirstUnordered : (ℕ → Item) → List Entry → List EventName → EventName → Option EventName → Type 0
IsFirstUnordered h entries names name None = (k : ℕ) (d : EventName) → k < length names → ComesBefore h entries (slice_index_or names k d) name
IsFirstUnordered h entries names name (Some found) = IsFirstNot h entries names name found

-- no event is in both lists
abbrev pub AreElsewhere : List Entry → List EventName → List EventName → Type 0
AreElsewhere entries xs ys = (x y : EventName) → Contains xs x → Contains ys y → position_of entries x ≡ position_of entries y → ⊥

-- the events are in no order
pub record AreUnordered (h : ℕ → Item) (entries : List Entry) (x y : EventName) : Type 0 where
  pub not_before : ComesBefore h entries x y → ⊥
  pub not_after : ComesBefore h entries y x → ⊥

-- the later of two events of the history is the one, or stands after it; or it is the one, and the earlier is the other or stands after that
abbrev pub IsUptoOf : List Entry → Apart → ℕ → ℕ → Type 0
IsUptoOf entries a later earlier = (position_of entries a.later < later)
    ⊎ ((position_of entries a.later ≡ later) × (position_of entries a.earlier ≤ earlier))

-- the first two come first, by their later event and then by their earlier one
abbrev pub ComesFirst : List Entry → Apart → EventName → EventName → Type 0
ComesFirst entries a x y =
    (position_of entries y < position_of entries x → IsUptoOf entries a (position_of entries x) (position_of entries y))
    × (position_of entries x < position_of entries y → IsUptoOf entries a (position_of entries y) (position_of entries x))

-- An event of each list, in no order, and before all other such events of the two.
pub record IsFirstOf (h : ℕ → Item) (entries : List Entry) (xs ys : List EventName) (a : Apart) : Type 0 where
  pub one_of_each : (Contains xs a.later × Contains ys a.earlier) ⊎ (Contains ys a.later × Contains xs a.earlier)
  pub earlier : position_of entries a.earlier < position_of entries a.later
  pub unordered : AreUnordered h entries a.later a.earlier
  pub first : (x y : EventName) → Contains xs x → Contains ys y → AreUnordered h entries x y → ComesFirst entries a x y

-- the answer is the first such two, and none where all are in order
abbrev pub IsFirstApart : (ℕ → Item) → List Entry → List EventName → List EventName → Option Apart → Type 0
IsFirstApart h entries xs ys None = AreOrdered h entries xs ys
IsFirstApart h entries xs ys (Some a) = IsFirstOf h entries xs ys a

-- the first list's event at i stands before those of the second one from j on
abbrev pub IsNext : List Entry → List EventName → ℕ → List EventName → ℕ → Type 0
IsNext entries xs i ys j = (b : ℕ) (d e : EventName) → j ≤ b → b < length ys → position_of entries (slice_index_or xs i d) < position_of entries (slice_index_or ys b e)

-- The first i events of the one list and the first j of the other are all in order, and stand before all others of the two.
pub record AreMerged (h : ℕ → Item) (entries : List Entry) (xs ys : List EventName) (i j : ℕ) : Type 0 where
  pub ordered : (a b : ℕ) (d e : EventName) → a < i → a < length xs → b < j → b < length ys →
      ComesBefore h entries (slice_index_or xs a d) (slice_index_or ys b e) ⊎ ComesBefore h entries (slice_index_or ys b e) (slice_index_or xs a d)
  pub below : (a b : ℕ) (d e : EventName) → a < i → a < length xs → j ≤ b → b < length ys →
      position_of entries (slice_index_or xs a d) < position_of entries (slice_index_or ys b e)
  pub above : (a b : ℕ) (d e : EventName) → i ≤ a → a < length xs → b < j → b < length ys →
      position_of entries (slice_index_or ys b e) < position_of entries (slice_index_or xs a d)

-- the first two in no order are found, or one more event of the first list is merged
abbrev pub IsMergedOrApart : (ℕ → Item) → List Entry → List EventName → List EventName → ℕ → ℕ → Option Apart → Type 0
IsMergedOrApart h entries xs ys i j None = AreMerged h entries xs ys (i + 1) j
IsMergedOrApart h entries xs ys i j (Some a) = IsFirstOf h entries xs ys a

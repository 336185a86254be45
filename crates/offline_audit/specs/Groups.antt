-- Accesses in groups of one kind, and what two groups have to do with racing pairs.
use Rattle.std.specs.Prelude.{◌≡◌, ℕ, ◌<◌, ◌⊎◌, ◌↔◌, List, [], ◌∷◌, ◌++◌, map, length, slice_index_or, Option, All, Contains}
use Rattle.run_record.specs.declared.entry.Entry.{Entry}
use Rattle.offline_audit.specs.declared.order.Order.{Order}
use Rattle.report_text.specs.declared.pair.Pair.{Pair}
use Rattle.offline_audit.specs.declared.access.Made.{Made}
use Rattle.offline_audit.specs.declared.group.Group.{Group}
use Rattle.run_laws.specs.Moments.{Item, moments, items}
use Rattle.offline_audit.specs.Orders.{TellsOrder}
use Rattle.offline_audit.specs.Pairs.{pair_of}
use Rattle.offline_audit.specs.Kinds.{KindsConflict}
use Rattle.offline_audit.specs.Chains.{IsEvent, IsChain, AreApart, AreOrdered}

-- the access is in one of the groups
abbrev pub IsIn : List Group → Made → Type 0
IsIn groups m = (g : Group) × Contains groups g × (g.kind ≡ m.kind) × Contains g.names m.name

-- the first address of each group's accesses
abbrev pub addresses : List Group → List ℕ
addresses groups = map (λ (g : Group). g.kind.addr) groups

-- in each group the accesses come one after another
abbrev pub AreChains : (ℕ → Item) → List Entry → List Group → Type 0
AreChains h entries groups = All (λ (g : Group). IsChain h entries g.names) groups

-- The new groups have one more access.
pub record AreWithOne (order : Order) (m : Made) (old new : List Group) : Type 0 where
  pub all : (x : Made) → IsIn new x ↔ (IsIn old x ⊎ (x ≡ m))
  pub chains : (h : ℕ → Item) (entries : List Entry) → TellsOrder h entries order → IsEvent h entries m.name → AreChains h entries old → AreChains h entries new
  pub addrs : (addresses new ≡ addresses old) ⊎ (addresses new ≡ addresses old ++ m.kind.addr ∷ [])

-- the pair is that of the places of two groups which conflict and have accesses that are in no order
pub record IsRaceOf (granule_of : ℕ → Option ℕ) (entries : List Entry) (a b : Group) (pair : Pair) : Type 0 where
  pub conflict : KindsConflict granule_of a.kind b.kind
  pub apart : AreApart (items (moments entries)) entries a.names b.names
  pub is : pair ≡ pair_of a.kind.place b.kind.place

-- if the groups conflict, the pair of their places is found, or all their accesses are in order
abbrev pub IsSettled : (ℕ → Option ℕ) → List Entry → Group → Group → List Pair → Type 0
IsSettled granule_of entries a b found =
    KindsConflict granule_of a.kind b.kind → Contains found (pair_of a.kind.place b.kind.place) ⊎ AreOrdered (items (moments entries)) entries a.names b.names

-- After the pairs that were found before, that of the two groups is found, if it is one, and no other.
pub record IsCompared (granule_of : ℕ → Option ℕ) (entries : List Entry) (a b : Group) (old new : List Pair) : Type 0 where
  pub kept : (x : Pair) → Contains old x → Contains new x
  pub sound : (x : Pair) → Contains new x → Contains old x ⊎ IsRaceOf granule_of entries a b x
  pub complete : IsSettled granule_of entries a b new

-- After the pairs that were found before, those of the group with one of the first n others are found, and no pair that isn't
-- one of the group with one of the others.
pub record AreCompared (granule_of : ℕ → Option ℕ) (entries : List Entry) (a : Group) (others : List Group) (n : ℕ) (old new : List Pair) : Type 0 where
  pub kept : (x : Pair) → Contains old x → Contains new x
  pub sound : (x : Pair) → Contains new x → Contains old x ⊎ ((b : Group) × Contains others b × IsRaceOf granule_of entries a b x)
  pub complete : (k : ℕ) (d : Group) → k < n → k < length others → IsSettled granule_of entries a (slice_index_or others k d) new

-- The pairs are those of two of the groups; all pairs of one of the first n and a later one are settled.
pub record AreFound (granule_of : ℕ → Option ℕ) (entries : List Entry) (groups : List Group) (n : ℕ) (found : List Pair) : Type 0 where
  pub sound : (x : Pair) → Contains found x → (a : Group) × (b : Group) × Contains groups a × Contains groups b × IsRaceOf granule_of entries a b x
  pub complete : (i j : ℕ) (d e : Group) → i < n → i < j → j < length groups → IsSettled granule_of entries (slice_index_or groups i d) (slice_index_or groups j e) found

-- What a contract sees of a set of synchronisation objects.
use Rattle.std.specs.Prelude.{◌≡◌, ◌≢◌, ℕ, ◌==◌, if◌then◌else◌, Bool, false, ◌&&◌, List, length, find, replicate, Option, Some, None}
use Rattle.std.specs.List.{IsDistinct}
use Rattle.run_record.specs.declared.event.Part.{Part}
use Rattle.run_laws.specs.HappensBefore.{same_part}

-- an object: its address and part, and the clock that was left there, in which era
pub record SyncObject : Type 0 where
  pub addr : ℕ
  pub part : Part
  pub era : ℕ
  pub clock : List ℕ

-- how many slots the clocks have, the objects in any order, and how many new objects need no memory
pub record SyncObjects : Type 0 where
  pub slots : ℕ
  pub objects : List SyncObject
  pub spare : ℕ

-- the object is of this address and this part, which are its name
abbrev pub is_of : ℕ → Part → SyncObject → Bool
is_of addr part o = (addr == o.addr) && same_part part o.part

-- the object of an address and a part
abbrev pub object_at : SyncObjects → ℕ → Part → Option SyncObject
object_at set addr part = find (is_of addr part) set.objects

-- the clock of an object that was left in that era; else one that knows nothing
abbrev pub clock_of : ℕ → ℕ → Option SyncObject → List ℕ
clock_of slots era None = replicate slots 0
clock_of slots era (Some o) = if o.era == era then o.clock else replicate slots 0

-- what was released to the object in that era, as a clock of the set's slots
abbrev pub clock_in : SyncObjects → ℕ → ℕ → Part → List ℕ
clock_in set era addr part = clock_of set.slots era (object_at set addr part)

-- both objects have the same address and part
abbrev pub have_one_name : SyncObject → SyncObject → Bool
have_one_name o other = is_of o.addr o.part other

-- There is at most one object of each address and part, and each clock has as many slots as the set.
pub record AreObjects (set : SyncObjects) : Type 0 where
  pub distinct : IsDistinct have_one_name set.objects
  pub long : (addr : ℕ) (part : Part) (o : SyncObject) → object_at set addr part ≡ Some o → length o.clock ≡ set.slots

-- the new set has this object, and all others as the old one
pub record Puts (old new : SyncObjects) (object : SyncObject) : Type 0 where
  pub there : object_at new object.addr object.part ≡ Some object
  pub others : (addr : ℕ) (part : Part) → is_of addr part object ≡ false → object_at new addr part ≡ object_at old addr part
  pub slots : new.slots ≡ old.slots

-- the new set has no object of this address, and all others as the old one
pub record Ends (old new : SyncObjects) (addr : ℕ) : Type 0 where
  pub gone : (part : Part) → object_at new addr part ≡ None
  pub others : (other : ℕ) (part : Part) → other ≢ addr → object_at new other part ≡ object_at old other part
  pub slots : new.slots ≡ old.slots

-- the new set has no object of this name, and all others as the old one
pub record Removes (old new : SyncObjects) (addr : ℕ) (part : Part) : Type 0 where
  pub gone : object_at new addr part ≡ None
  pub others : (other : ℕ) (of : Part) → (other == addr) && same_part of part ≡ false → object_at new other of ≡ object_at old other of
  pub slots : new.slots ≡ old.slots

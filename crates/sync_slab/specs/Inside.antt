-- What the set's calls do inside.
use Rattle.std.specs.Prelude.{◌≡◌, ℕ, ◌<◌, ◌≤◌, Bool, true, List, [], length, map, Option, Some, unwrap_or, IsSome, ◌==◌, if◌then◌else◌}
use Rattle.std.specs.declared.hash.FoldHasher.{FoldHasher}
use Rattle.std.specs.declared.hash.BuildHasherDefault.{BuildHasherDefault}
use Rattle.vector_clock.specs.Clocks.{joined}
use Rattle.slab.specs.Slab.{Slab, slab_len, HasRoomFor}
use Rattle.slab.specs.Slab as slab
use Rattle.indexmap.specs.IndexMap.{IndexMap, index_map_len, spare, IsUnique}
use Rattle.indexmap.specs.IndexMap as index
use Rattle.sync_slab.specs.declared.id.ObjectId.{ObjectId}
use Rattle.sync_slab.specs.declared.object.Object.{Object}
use Rattle.sync_slab.specs.Ids.{same_id}
use Rattle.sync_slab.specs.Objects.{SyncObject}

-- an `Index`, since antt has no name for an alias
abbrev pub Index : Type 0
Index = IndexMap ObjectId ℕ (BuildHasherDefault FoldHasher)

-- the object after a joining release: a clock of another era is no part of it
abbrev pub released_into : Object → ℕ → List ℕ → Object
released_into o era clock = record { era = era; clock = if o.era == era then joined o.clock clock else clock }

-- where the object stands
abbrev pub place_of : Index → ObjectId → Option ℕ
place_of ids id = index.get same_id ids id

-- what stands at a place, which has an object
abbrev pub held : Slab Object → ℕ → Object
held objects at = unwrap_or (slab.get objects at) (record { era = 0; clock = [] })

abbrev pub named : ObjectId → Object → SyncObject
named id o = record { addr = id.addr; part = id.part; era = o.era; clock = o.clock }

-- the objects in the order of the index
abbrev pub objects_of : Slab Object → Index → List SyncObject
objects_of objects ids = map (λ (e : ObjectId × ℕ). named e.0 (held objects e.1)) ids.entries

-- Each name in the index has a place of its own with an object, and there are no other objects. What is in reserve serves one new object.
pub record IsSound (slots : ℕ) (objects : Slab Object) (ids : Index) (kept : Option (List ℕ)) (has_spare : Bool) : Type 0 where
  pub slots_fit : (1 ≤ slots) × (slots ≤ 255)
  pub unique : IsUnique same_id ids
  pub placed : (id : ObjectId) (at : ℕ) → place_of ids id ≡ Some at → IsSome (slab.get objects at)
  pub apart : (id other : ObjectId) (at : ℕ) → place_of ids id ≡ Some at → place_of ids other ≡ Some at → id ≡ other
  pub as_many : slab_len objects ≡ index_map_len ids
  pub long : (at : ℕ) (o : Object) → slab.get objects at ≡ Some o → length o.clock ≡ slots
  pub kept_long : (clock : List ℕ) → kept ≡ Some clock → length clock ≡ slots
  pub room : has_spare ≡ true → IsSome kept × HasRoomFor objects 1 × (0 < spare ids)

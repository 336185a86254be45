-- The objects by their names, from the index and the slab.
use Rattle.std.proofs.Common.{◌≡◌, ◌≢◌, ◌⊎◌, ℕ, ◌+◌, ◌≤◌, ◌==◌, ◌&&◌, Bool, true, false, cond, if◌then◌else◌, get_or, replicate, List, [], ◌∷◌, length, map, Option, Some, None, IsSome, is_some, refl, sym, ap, subst, ◌∙◌, inl, inr, arith, eq-eqb}
use Rattle.std.specs.Prelude.{find, option_map, unwrap_or}
use Rattle.std.specs.List.{IsDistinct, AllByRecursion}
use Rattle.std.specs.Map.{lookup, keys_of}
use Rattle.std.proofs.lemmas.Bool.{cases_Bool, cases_eq, ne_eqb}
use Rattle.run_record.specs.declared.event.Part.{Part}
use Rattle.run_record.specs.declared.event.Part.TheVariants.{Main, Readers}
use Rattle.run_laws.specs.HappensBefore.{same_part}
use Rattle.slab.specs.Slab.{Slab, slab_len, with_value, Updates}
use Rattle.indexmap.specs.IndexMap.{index_map_len, spare, IsUnique}
use Rattle.slab.proofs.SlabLemmas.{ContainsKey-within, Updates-with_value}
use Rattle.std.proofs.lemmas.List.Sums.{sum_by-set}
use Rattle.slab.specs.Slab as slab
use Rattle.sync_slab.specs.declared.id.ObjectId.{ObjectId}
use Rattle.sync_slab.specs.declared.object.Object.{Object}
use Rattle.sync_slab.specs.Ids.{same_id, same_id-true, same_id-refl, same_id_equiv}
use Rattle.sync_slab.specs.Objects.{SyncObject, SyncObjects, is_of, object_at, have_one_name, AreObjects, Puts, Ends, Removes, clock_of, clock_in}
use Rattle.vector_clock.specs.Clocks.{joined}
use Rattle.vector_clock.proofs.ClockLaws.{joined-from_each, get_or-cleared, length-joined}
use Rattle.std.proofs.Math.Nat.{max-zero, zero-max}
use Rattle.std.proofs.lemmas.List.{length-replicate}
use Rattle.sync_slab.specs.Inside.{Index, place_of, held, named, objects_of, IsSound}

abbrev id_of : ℕ → Part → ObjectId
id_of addr part = record { addr = addr; part = part }

-- an object is found where the index says
find_named : (objects : Slab Object) (es : List (ObjectId × ℕ)) (id : ObjectId) → find (is_of id.addr id.part) (map (λ (e : ObjectId × ℕ). named e.0 (held objects e.1)) es) ≡ option_map (λ at. named id (held objects at)) (lookup (same_id id) es)
find_named objects [] id = refl
find_named objects (e ∷ es) id = elim (cases_Bool (same_id id e.0)) [
  | inl is_id ↦ let one = same_id-true id e.0 is_id in rw is_id (ap (λ (it : ObjectId). Some (named it (held objects e.1))) (sym one))
  | inr other ↦ rw other (find_named objects es id)
]

apart_named : (objects : Slab Object) (e : ObjectId × ℕ) (es : List (ObjectId × ℕ)) → AllByRecursion (λ (k : ObjectId). same_id e.0 k ≡ false) (keys_of es) → AllByRecursion (λ (o : SyncObject). have_one_name (named e.0 (held objects e.1)) o ≡ false) (map (λ (e : ObjectId × ℕ). named e.0 (held objects e.1)) es)
apart_named objects e [] all = all
apart_named objects e (f ∷ es) all = (all.0, apart_named objects e es all.1)

distinct_named : (objects : Slab Object) (es : List (ObjectId × ℕ)) → IsDistinct same_id (keys_of es) → IsDistinct have_one_name (map (λ (e : ObjectId × ℕ). named e.0 (held objects e.1)) es)
unfolding IsDistinct
distinct_named objects [] all = all
distinct_named objects (e ∷ es) all = (apart_named objects e es all.0, distinct_named objects es all.1)

abbrev pub set_of : ℕ → Slab Object → Index → ℕ → SyncObjects
set_of slots objects ids spare = record { slots = slots; objects = objects_of objects ids; spare = spare }

-- the object of a name is the one at its place
pub object_at-place : (slots : ℕ) (objects : Slab Object) (ids : Index) (spare : ℕ) (id : ObjectId) → object_at (set_of slots objects ids spare) id.addr id.part ≡ option_map (λ at. named id (held objects at)) (place_of ids id)
object_at-place slots objects ids spare id = find_named objects ids.entries id

held_at : (objects : Slab Object) (at : ℕ) (o : Object) → slab.get objects at ≡ Some o → held objects at ≡ o
held_at objects at o e = ap (λ (it : Option Object). unwrap_or it (record { era = 0; clock = [] })) e

some_at : (objects : Slab Object) (at : ℕ) → IsSome (slab.get objects at) → slab.get objects at ≡ Some (held objects at)
some_at objects at there = go (slab.get objects at) there
  where
    go : (o : Option Object) → IsSome o → o ≡ Some (unwrap_or o (record { era = 0; clock = [] }))
    go None there = absurd (cc)
    go (Some o) there = refl

-- each clock has as many slots as the set, and each name has one object
pub sound_objects : (slots : ℕ) (objects : Slab Object) (ids : Index) (kept : Option (List ℕ)) (has_spare : Bool) (spare : ℕ) → IsSound slots objects ids kept has_spare → AreObjects (set_of slots objects ids spare)
sound_objects slots objects ids kept has_spare spare sound = record {
  distinct = distinct_named objects ids.entries sound.unique;
  long = λ addr part o found. go addr part o (place_of ids (id_of addr part)) refl (sym (object_at-place slots objects ids spare (id_of addr part)) ∙ found);
}
  where
    go : (addr : ℕ) (part : Part) (o : SyncObject) (place : Option ℕ) → place_of ids (id_of addr part) ≡ place → option_map (λ at. named (id_of addr part) (held objects at)) place ≡ Some o → length o.clock ≡ slots
    go addr part o None at e = absurd (cc)
    go addr part o (Some p) at e =
        let is : named (id_of addr part) (held objects p) ≡ o = cc in
        subst (λ (it : SyncObject). length it.clock ≡ slots) is (sound.long p (held objects p) (some_at objects p (sound.placed (id_of addr part) p at)))

-- a name that isn't in the index has no object
pub object_at-absent : (old : SyncObjects) (slots : ℕ) (objects : Slab Object) (ids : Index) (spare : ℕ) (id : ObjectId) → set_of slots objects ids spare ≡ old → place_of ids id ≡ None → object_at old id.addr id.part ≡ None
object_at-absent old slots objects ids spare id is absent = rw (← is) (object_at-place slots objects ids spare id ∙ ap (λ (place : Option ℕ). option_map (λ at. named id (held objects at)) place) absent)

-- and one that has no object isn't in the index
pub place_of-absent : (old : SyncObjects) (slots : ℕ) (objects : Slab Object) (ids : Index) (spare : ℕ) (id : ObjectId) → set_of slots objects ids spare ≡ old → object_at old id.addr id.part ≡ None → place_of ids id ≡ None
place_of-absent old slots objects ids spare id is absent = go (place_of ids id) (sym (object_at-place slots objects ids spare id) ∙ (ap (λ (set : SyncObjects). object_at set id.addr id.part) is ∙ absent))
  where
    go : (place : Option ℕ) → option_map (λ at. named id (held objects at)) place ≡ None → place ≡ None
    go None e = refl
    go (Some at) e = absurd (cc)

-- one that is in the index has the object at its place
pub object_at-there : (old : SyncObjects) (slots : ℕ) (objects : Slab Object) (ids : Index) (spare : ℕ) (id : ObjectId) (at : ℕ) (o : Object) → set_of slots objects ids spare ≡ old → place_of ids id ≡ Some at → slab.get objects at ≡ Some o → object_at old id.addr id.part ≡ Some (named id o)
object_at-there old slots objects ids spare id at o is placed there =
    rw (← is) (object_at-place slots objects ids spare id ∙ (ap (λ (place : Option ℕ). option_map (λ at. named id (held objects at)) place) placed ∙ ap (λ (it : Object). Some (named id it)) (held_at objects at o there)))

-- an object whose name and place stay as they were is the same
kept_object : (slots n m : ℕ) (objects objects' : Slab Object) (ids ids' : Index) (id : ObjectId) → place_of ids' id ≡ place_of ids id → ((at : ℕ) → place_of ids id ≡ Some at → slab.get objects' at ≡ slab.get objects at) → object_at (set_of slots objects' ids' m) id.addr id.part ≡ object_at (set_of slots objects ids n) id.addr id.part
kept_object slots n m objects objects' ids ids' id same there =
    object_at-place slots objects' ids' m id ∙ (ap (λ (place : Option ℕ). option_map (λ at. named id (held objects' at)) place) same ∙ (go (place_of ids id) refl ∙ sym (object_at-place slots objects ids n id)))
  where
    go : (place : Option ℕ) → place_of ids id ≡ place → option_map (λ at. named id (held objects' at)) place ≡ option_map (λ at. named id (held objects at)) place
    go None e = refl
    go (Some at) e = ap (λ (it : Option Object). Some (named id (unwrap_or it (record { era = 0; clock = [] })))) (there at e)

-- the object of one name is put, and all others keep their names and places
pub puts : (old : SyncObjects) (slots n m : ℕ) (objects objects' : Slab Object) (ids ids' : Index) (id : ObjectId) (at : ℕ) (o : Object) → set_of slots objects ids n ≡ old → place_of ids' id ≡ Some at → slab.get objects' at ≡ Some o
    → ((other : ObjectId) → same_id other id ≡ false → place_of ids' other ≡ place_of ids other)
    → ((other : ObjectId) (place : ℕ) → same_id other id ≡ false → place_of ids other ≡ Some place → slab.get objects' place ≡ slab.get objects place)
    → Puts old (set_of slots objects' ids' m) (named id o)
puts old slots n m objects objects' ids ids' id at o is placed there names places = subst (λ (it : SyncObjects). Puts it (set_of slots objects' ids' m) (named id o)) is (record {
  there = object_at-there (set_of slots objects' ids' m) slots objects' ids' m id at o refl placed there;
  others = λ addr part differs. kept_object slots n m objects objects' ids ids' (id_of addr part) (names (id_of addr part) differs) (λ place e. places (id_of addr part) place differs e);
  slots = refl;
})

pub removes : (old : SyncObjects) (slots n m : ℕ) (objects objects' : Slab Object) (ids ids' : Index) (id : ObjectId) → set_of slots objects ids n ≡ old → place_of ids' id ≡ None
    → ((other : ObjectId) → same_id other id ≡ false → place_of ids' other ≡ place_of ids other)
    → ((other : ObjectId) (place : ℕ) → same_id other id ≡ false → place_of ids other ≡ Some place → slab.get objects' place ≡ slab.get objects place)
    → Removes old (set_of slots objects' ids' m) id.addr id.part
removes old slots n m objects objects' ids ids' id is gone names places = subst (λ (it : SyncObjects). Removes it (set_of slots objects' ids' m) id.addr id.part) is (record {
  gone = object_at-absent (set_of slots objects' ids' m) slots objects' ids' m id refl gone;
  others = λ addr part differs. kept_object slots n m objects objects' ids ids' (id_of addr part) (names (id_of addr part) differs) (λ place e. places (id_of addr part) place differs e);
  slots = refl;
})

-- ---- the invariant

-- the tests of names are symmetric
same_id-flip : (a b : ObjectId) → same_id a b ≡ same_id b a
same_id-flip a b = same_id_equiv.symm a b

other_place : (ids ids' : Index) (id : ObjectId) (place : Option ℕ) → ((other : ObjectId) → place_of ids' other ≡ cond (same_id id other) place (place_of ids other)) → (other : ObjectId) → same_id other id ≡ false → place_of ids' other ≡ place_of ids other
other_place ids ids' id place gives other differs =
    gives other ∙ ap (λ b. cond b place (place_of ids other)) (same_id-flip id other ∙ differs)

own_place : (ids ids' : Index) (id : ObjectId) (place : Option ℕ) → ((other : ObjectId) → place_of ids' other ≡ cond (same_id id other) place (place_of ids other)) → place_of ids' id ≡ place
own_place ids ids' id place gives = gives id ∙ ap (λ b. cond b place (place_of ids id)) (same_id-refl id)

-- an object was written over: the names stay
len_written : (objects : Slab Object) (at : ℕ) (was o : Object) → slab.get objects at ≡ Some was → slab_len (with_value objects at o) ≡ slab_len objects
len_written objects at was o there =
    let within = ContainsKey-within objects at (rw there refl) in
    let moved = sum_by-set (λ (it : Option Object). cond (is_some it) 1 0) objects.slots at (Some o) None within in
    let one : ◌≡◌ {A = ℕ} (cond (is_some (slab.get objects at)) 1 0) 1 = ap (λ (it : Option Object). cond (is_some it) 1 0) there in
    omega (arith, moved, one)

pub written_elsewhere : (objects : Slab Object) (at : ℕ) (was o : Object) (place : ℕ) → slab.get objects at ≡ Some was → place ≢ at → slab.get (with_value objects at o) place ≡ slab.get objects place
written_elsewhere objects at was o place there differs = (Updates-with_value objects at o (rw there refl)).others place differs

pub written_here : (objects : Slab Object) (at : ℕ) (was o : Object) → slab.get objects at ≡ Some was → slab.get (with_value objects at o) at ≡ Some o
written_here objects at was o there = (Updates-with_value objects at o (rw there refl)).changed

pub written_sound : (slots : ℕ) (objects : Slab Object) (ids : Index) (kept : Option (List ℕ)) (has_spare : Bool) (at : ℕ) (was o : Object) → IsSound slots objects ids kept has_spare → slab.get objects at ≡ Some was → length o.clock ≡ slots → IsSound slots (with_value objects at o) ids kept has_spare
written_sound slots objects ids kept has_spare at was o sound there long = record {
  slots_fit = sound.slots_fit;
  unique = sound.unique;
  placed = λ id place e. elim (cases_eq place at) [
    | inl here ↦ rw (here, written_here objects at was o there) refl
    | inr elsewhere ↦ rw (written_elsewhere objects at was o place there elsewhere) (sound.placed id place e)
  ];
  apart = sound.apart;
  as_many = len_written objects at was o there ∙ sound.as_many;
  long = λ place it e. elim (cases_eq place at) [
    | inl here ↦
        let is : Some o ≡ Some it = sym (written_here objects at was o there) ∙ (ap (λ (p : ℕ). slab.get (with_value objects at o) p) (sym here) ∙ e) in
        let same : o ≡ it = cc in subst (λ (x : Object). length x.clock ≡ slots) same long
    | inr elsewhere ↦ sound.long place it (sym (written_elsewhere objects at was o place there elsewhere) ∙ e)
  ];
  kept_long = sound.kept_long;
  room = λ ready. let room = sound.room ready in (room.0, let same = len_written objects at was o there in omega arith, room.2);
}

-- a place of another name is another place
pub other_at : (slots : ℕ) (objects : Slab Object) (ids : Index) (kept : Option (List ℕ)) (has_spare : Bool) (id other : ObjectId) (at place : ℕ) → IsSound slots objects ids kept has_spare → place_of ids id ≡ Some at → place_of ids other ≡ Some place → same_id other id ≡ false → place ≢ at
other_at slots objects ids kept has_spare id other at place sound here there differs same =
    let one = sound.apart other id at (there ∙ ap Some same) here in
    let is : same_id other id ≡ true = rw one (same_id-refl id) in
    cc

-- the place of a name isn't a vacant one
pub not_vacant : (slots : ℕ) (objects : Slab Object) (ids : Index) (kept : Option (List ℕ)) (has_spare : Bool) (id : ObjectId) (at place : ℕ) → IsSound slots objects ids kept has_spare → slab.get objects at ≡ None → place_of ids id ≡ Some place → place ≢ at
not_vacant slots objects ids kept has_spare id at place sound vacant there same =
    let some : is_some (slab.get objects place) ≡ true = sound.placed id place there in
    let none : is_some (slab.get objects place) ≡ false = ap (λ (p : ℕ). is_some (slab.get objects p)) same ∙ ap is_some vacant in
    cc

-- an object was added under a new name
module _ (slots : ℕ) (objects objects' : Slab Object) (ids ids' : Index) (kept : Option (List ℕ)) (has_spare : Bool) (id : ObjectId) (at : ℕ) (o : Object)
    (sound : IsSound slots objects ids kept has_spare) (vacant : slab.get objects at ≡ None) (updates : Updates objects objects' at (Some o))
    (names : (other : ObjectId) → place_of ids' other ≡ cond (same_id id other) (Some at) (place_of ids other)) where
  -- each name is the new one at the new place, or an old one at another place
  added_name : (other : ObjectId) (place : ℕ) → place_of ids' other ≡ Some place → ((other ≡ id) × (place ≡ at)) ⊎ ((place_of ids other ≡ Some place) × (place ≢ at))
  added_name other place there = elim (cases_Bool (same_id id other)) [
    | inl is_id ↦
        let found : Some at ≡ Some place = rw is_id at (sym (names other) ∙ there) in
        inl (sym (same_id-true id other is_id), cc)
    | inr differs ↦
        let found : place_of ids other ≡ Some place = rw differs at (sym (names other) ∙ there) in
        inr (found, not_vacant slots objects ids kept has_spare other at place sound vacant found)
  ]

  pub added_sound : IsUnique same_id ids' → slab_len objects' ≡ slab_len objects + 1 → index_map_len ids' ≡ index_map_len ids + 1 → length o.clock ≡ slots → IsSound slots objects' ids' None false
  added_sound unique more_objects more_names long = record {
    slots_fit = sound.slots_fit;
    unique = unique;
    placed = λ other place there. elim (added_name other place there) [
      | inl new ↦ rw (new.1, updates.changed) refl
      | inr old ↦ rw (updates.others place old.1) (sound.placed other place old.0)
    ];
    apart = λ a b place p q. elim (added_name a place p) [
      | inl new ↦ elim (added_name b place q) [
        | inl also ↦ new.0 ∙ sym also.0
        | inr old ↦ absurd (old.1 new.1)
      ]
      | inr old ↦ elim (added_name b place q) [
        | inl new ↦ absurd (old.1 new.1)
        | inr also ↦ sound.apart a b place old.0 also.0
      ]
    ];
    as_many = let same = sound.as_many in omega arith;
    long = λ place it e. elim (cases_eq place at) [
      | inl here ↦
          let is : Some o ≡ Some it = sym updates.changed ∙ (ap (λ (p : ℕ). slab.get objects' p) (sym here) ∙ e) in
          let same : o ≡ it = cc in subst (λ (x : Object). length x.clock ≡ slots) same long
      | inr elsewhere ↦ sound.long place it (sym (updates.others place elsewhere) ∙ e)
    ];
    kept_long = λ clock e. absurd (cc);
    room = λ e. absurd (cc);
  }

  pub added_puts : (old : SyncObjects) (n m : ℕ) (it : Object) → set_of slots objects ids n ≡ old → o ≡ it → Puts old (set_of slots objects' ids' m) (named id it)
  added_puts old n m it is new = subst (λ (x : Object). Puts old (set_of slots objects' ids' m) (named id x)) new
      (puts old slots n m objects objects' ids ids' id at o is (own_place ids ids' id (Some at) names) updates.changed (other_place ids ids' id (Some at) names)
      (λ other place differs there. updates.others place (not_vacant slots objects ids kept has_spare other at place sound vacant there)))

-- an object was written over
pub written_puts : (old : SyncObjects) (slots n m : ℕ) (objects : Slab Object) (ids : Index) (kept : Option (List ℕ)) (has_spare : Bool) (id : ObjectId) (at : ℕ) (was o it : Object) → IsSound slots objects ids kept has_spare → set_of slots objects ids n ≡ old → place_of ids id ≡ Some at → slab.get objects at ≡ Some was → o ≡ it → Puts old (set_of slots (with_value objects at o) ids m) (named id it)
written_puts old slots n m objects ids kept has_spare id at was o it sound is placed there new = subst (λ (x : Object). Puts old (set_of slots (with_value objects at o) ids m) (named id x)) new
    (puts old slots n m objects (with_value objects at o) ids ids id at o is placed (written_here objects at was o there) (λ other differs. refl)
    (λ other place differs found. written_elsewhere objects at was o place there (other_at slots objects ids kept has_spare id other at place sound placed found differs)))

-- a clock that knows nothing adds nothing
pub joined_nothing : (slots : ℕ) (clock : List ℕ) → length clock ≡ slots → joined clock (replicate slots 0) ≡ clock
joined_nothing slots clock long =
    let same : length clock ≡ length (replicate {A = ℕ} slots 0) = long ∙ sym (length-replicate {A = ℕ} slots 0) in
    sym (joined-from_each clock (replicate slots 0) clock same refl (λ sid within. rw (get_or-cleared slots sid) (sym (max-zero (get_or clock sid 0)))))

pub nothing_joined : (slots : ℕ) (clock : List ℕ) → length clock ≡ slots → joined (replicate slots 0) clock ≡ clock
nothing_joined slots clock long =
    let same : length clock ≡ length (replicate {A = ℕ} slots 0) = long ∙ sym (length-replicate {A = ℕ} slots 0) in
    sym (joined-from_each (replicate slots 0) clock clock (sym same) same (λ sid within. rw (get_or-cleared slots sid) (sym (zero-max (get_or clock sid 0)))))

-- what a joining release leaves is joined to the clock of its era
pub released_clock : (slots era : ℕ) (was : Object) (id : ObjectId) (clock : List ℕ) → length clock ≡ slots → (if was.era == era then joined was.clock clock else clock) ≡ joined (clock_of slots era (Some (named id was))) clock
released_clock slots era was id clock long =
    elim (was.era == era) as (λ b. (if b then joined was.clock clock else clock) ≡ joined (if b then was.clock else replicate slots 0) clock) [ true ↦ refl | false ↦ sym (nothing_joined slots clock long) ]

-- the clock of an object in an era
pub clock_in-there : (old : SyncObjects) (slots n era : ℕ) (objects : Slab Object) (ids : Index) (id : ObjectId) (at : ℕ) (o : Object) → set_of slots objects ids n ≡ old → place_of ids id ≡ Some at → slab.get objects at ≡ Some o → clock_in old era id.addr id.part ≡ clock_of slots era (Some (named id o))
clock_in-there old slots n era objects ids id at o is placed there =
    let found = object_at-there old slots objects ids n id at o is placed there in
    ap (clock_of old.slots era) found ∙ ap (λ (set : SyncObjects). clock_of set.slots era (Some (named id o))) (sym is)

pub clock_in-absent : (old : SyncObjects) (slots n era : ℕ) (objects : Slab Object) (ids : Index) (id : ObjectId) → set_of slots objects ids n ≡ old → place_of ids id ≡ None → clock_in old era id.addr id.part ≡ replicate old.slots 0
clock_in-absent old slots n era objects ids id is absent = ap (clock_of old.slots era) (object_at-absent old slots objects ids n id is absent)

-- what is kept for the next new object after one is taken away
kept_after-long : (slots : ℕ) (kept : Option (List ℕ)) (clock : List ℕ) → ((c : List ℕ) → kept ≡ Some c → length c ≡ slots) → length clock ≡ slots → (c : List ℕ) → (if is_some kept then kept else Some clock) ≡ Some c → length c ≡ slots
kept_after-long slots None clock long one c e = let same : clock ≡ c = cc in subst (λ (x : List ℕ). length x ≡ slots) same one
kept_after-long slots (Some k) clock long one c e = long c e

kept_after-some : (kept : Option (List ℕ)) (clock : List ℕ) → IsSome (if is_some kept then kept else Some clock)
kept_after-some None clock = refl
kept_after-some (Some k) clock = refl

-- a name was taken out of the index
module _ (slots : ℕ) (objects : Slab Object) (ids ids' : Index) (kept : Option (List ℕ)) (has_spare : Bool) (id : ObjectId)
    (sound : IsSound slots objects ids kept has_spare) (unique : IsUnique same_id ids')
    (names : (other : ObjectId) → place_of ids' other ≡ cond (same_id id other) None (place_of ids other)) (room : spare ids ≤ spare ids') where
  kept_name : (other : ObjectId) (place : ℕ) → place_of ids' other ≡ Some place → (place_of ids other ≡ Some place) × (same_id other id ≡ false)
  kept_name other place there = elim (cases_Bool (same_id id other)) [
    | inl is_id ↦
        let gone : None ≡ Some place = rw is_id at (sym (names other) ∙ there) in
        absurd (cc)
    | inr differs ↦ (rw differs at (sym (names other) ∙ there), same_id-flip other id ∙ differs)
  ]

  -- which wasn't there
  pub absent_sound : index_map_len ids' ≡ index_map_len ids → IsSound slots objects ids' kept has_spare
  absent_sound as_many = record {
    slots_fit = sound.slots_fit;
    unique = unique;
    placed = λ other place there. sound.placed other place (kept_name other place there).0;
    apart = λ a b place p q. sound.apart a b place (kept_name a place p).0 (kept_name b place q).0;
    as_many = sound.as_many ∙ sym as_many;
    long = sound.long;
    kept_long = sound.kept_long;
    room = λ ready. let before = sound.room ready in (before.0, before.1, omega arith);
  }

  pub absent_removes : (old : SyncObjects) (n m : ℕ) → set_of slots objects ids n ≡ old → Removes old (set_of slots objects ids' m) id.addr id.part
  absent_removes old n m is =
      removes old slots n m objects objects ids ids' id is (own_place ids ids' id None names) (other_place ids ids' id None names) (λ other place differs there. refl)

  -- and its object out of the slab
  module _ (objects' : Slab Object) (at : ℕ) (o : Object) (placed : place_of ids id ≡ Some at) (was : slab.get objects at ≡ Some o) (updates : Updates objects objects' at None) where
    pub removed_sound : (kept' : Option (List ℕ)) → slab_len objects' + 1 ≡ slab_len objects → index_map_len ids' + 1 ≡ index_map_len ids → objects'.capacity ≡ objects.capacity → kept' ≡ (if is_some kept then kept else Some o.clock) → IsSound slots objects' ids' kept' has_spare
    removed_sound kept' fewer_objects fewer_names capacity keeps = record {
      slots_fit = sound.slots_fit;
      unique = unique;
      placed = λ other place there.
          let before = kept_name other place there in
          rw (updates.others place (other_at slots objects ids kept has_spare id other at place sound placed before.0 before.1)) (sound.placed other place before.0);
      apart = λ a b place p q. sound.apart a b place (kept_name a place p).0 (kept_name b place q).0;
      as_many = let same = sound.as_many in omega arith;
      long = λ place it e. elim (cases_eq place at) [
        | inl here ↦
            let gone : None ≡ Some it = sym updates.changed ∙ (ap (λ (p : ℕ). slab.get objects' p) (sym here) ∙ e) in
            absurd (cc)
        | inr elsewhere ↦ sound.long place it (sym (updates.others place elsewhere) ∙ e)
      ];
      kept_long = λ clock e. kept_after-long slots kept o.clock sound.kept_long (sound.long at o was) clock (sym keeps ∙ e);
      room = λ ready. let before = sound.room ready in (rw keeps (kept_after-some kept o.clock), omega arith, omega arith);
    }

    pub removed_removes : (old : SyncObjects) (n m : ℕ) → set_of slots objects ids n ≡ old → Removes old (set_of slots objects' ids' m) id.addr id.part
    removed_removes old n m is =
        removes old slots n m objects objects' ids ids' id is (own_place ids ids' id None names) (other_place ids ids' id None names)
        (λ other place differs there. updates.others place (other_at slots objects ids kept has_spare id other at place sound placed there differs))

-- a clock that a joining release leaves has as many slots
pub released_long : (slots era : ℕ) (was : Object) (clock : List ℕ) → length was.clock ≡ slots → length clock ≡ slots → length (if was.era == era then joined was.clock clock else clock) ≡ slots
released_long slots era was clock long also =
    elim (was.era == era) as (λ b. length (if b then joined was.clock clock else clock) ≡ slots) [ true ↦ length-joined was.clock clock (long ∙ sym also) ∙ long | false ↦ also ]

-- without its two objects an address has none
pub ends : (old mid new : SyncObjects) (addr : ℕ) → Removes old mid addr Main → Removes mid new addr Readers → Ends old new addr
ends old mid new addr main readers = record {
  gone = λ part. go part;
  others = λ other part differs.
      let apart : (of : Part) → (other == addr) && same_part part of ≡ false = λ of. ap (λ b. b && same_part part of) (ne_eqb other addr differs) in
      readers.others other part (apart Readers) ∙ main.others other part (apart Main);
  slots = readers.slots ∙ main.slots;
}
  where
    go : (part : Part) → object_at new addr part ≡ None
    go Main = readers.others addr Main (ap (λ b. b && false) (eq-eqb addr addr refl)) ∙ main.gone
    go Readers = readers.gone

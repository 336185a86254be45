-- A set of objects keeps the channels of a history along its events.
use Rattle.std.proofs.Common.{◌≡◌, ◌≢◌, ℕ, ◌+◌, ◌==◌, ◌&&◌, Bool, true, false, cond, if◌then◌else◌, max, get_or, replicate, List, [], length, Option, Some, None, refl, sym, ap, ◌∙◌, inl, inr, arith, eq-eqb, ap₂, add-zero}
use Rattle.std.specs.Prelude.{find, nat_lt}
use Rattle.std.specs.List.{IsDistinct}
use Rattle.std.proofs.Math.Nat.{max-zero, zero-max}
use Rattle.std.proofs.lemmas.Bool.{cases_Bool, cases_eq, ne_eqb}
use Rattle.std.proofs.lemmas.List.{length-replicate}
use Rattle.vector_clock.specs.Clocks.{joined}
use Rattle.vector_clock.proofs.ClockLaws.{get_or-cleared, get_or-joined}
use Rattle.run_record.specs.declared.event.Event.{Event}
use Rattle.run_record.specs.declared.event.Event.TheVariants.{Acquire, Release, Destroy, Clear}
use Rattle.run_record.specs.declared.event.Part.{Part}
use Rattle.run_record.specs.declared.event.Part.TheVariants.{Main}
use Rattle.run_record.specs.declared.entry.DeskNote.{DeskNote}
use Rattle.run_record.specs.declared.entry.DeskNote.TheVariants.{Nothing, Attach, Leave}
use Rattle.run_laws.specs.HappensBefore.{same_part}
use Rattle.run_laws.specs.Moments.{Notes, NewEra}
use Rattle.run_laws.specs.Labels.{Labels, holds, raised, can_attach}
use Rattle.run_laws.specs.Clocks.{Clocks, Spot, Channel, Of, leaves, empties, attach_clocks, event_clocks, next_clocks, no_clocks}
use Rattle.sync_slab.specs.Ids.{same_id-refl, same_id-true, same_id_equiv}
use Rattle.sync_slab.specs.declared.id.ObjectId.{ObjectId}
use Rattle.sync_slab.specs.Objects.{SyncObject, SyncObjects, is_of, object_at, clock_of, clock_in, AreObjects, Puts, Ends, Removes}
use Rattle.sync_slab.specs.Channels.{IsClock, KeepsChannels, IsElsewhere}

-- an object of another era counts as absent
clock_of-other_era : (slots era : ℕ) (o : Option SyncObject) → ((it : SyncObject) → o ≡ Some it → it.era ≢ era) → clock_of slots era o ≡ replicate slots 0
clock_of-other_era slots era None other = refl
clock_of-other_era slots era (Some o) other = ap (λ b. cond b o.clock (replicate slots 0)) (ne_eqb o.era era (other o refl))

clock_of-this_era : (slots era : ℕ) (o : Option SyncObject) (it : SyncObject) → o ≡ Some it → it.era ≡ era → clock_of slots era o ≡ it.clock
clock_of-this_era slots era o it found this = ap (clock_of slots era) found ∙ ap (λ b. cond b it.clock (replicate slots 0)) (eq-eqb it.era era this)

length-clock_of : (slots era : ℕ) (o : Option SyncObject) → ((it : SyncObject) → o ≡ Some it → length it.clock ≡ slots) → length (clock_of slots era o) ≡ slots
length-clock_of slots era None long = length-replicate {A = ℕ} slots 0
length-clock_of slots era (Some o) long = elim (o.era == era) as (λ b. length (cond b o.clock (replicate slots 0)) ≡ slots) [ true ↦ long o refl | false ↦ length-replicate {A = ℕ} slots 0 ]

-- each clock has as many slots as the set
pub length-clock_in : (set : SyncObjects) (era addr : ℕ) (part : Part) → AreObjects set → length (clock_in set era addr part) ≡ set.slots
length-clock_in set era addr part are = length-clock_of set.slots era (object_at set addr part) (are.long addr part)

-- the calls that change nothing
pub keeps-empty : (covers : ℕ → Bool) (era : ℕ) (set : SyncObjects) → set.objects ≡ [] → KeepsChannels covers era no_clocks set
unfolding IsDistinct
keeps-empty covers era set empty =
    let none : (addr : ℕ) (part : Part) → object_at set addr part ≡ None = λ addr part. ap (λ (xs : List SyncObject). find (is_of addr part) xs) empty in
    record {
      objects = record {
        distinct = rw empty tt;
        long = λ addr part o found. let no : None ≡ Some o = sym (none addr part) ∙ found in absurd (cc);
      };
      clocks = λ addr part covered slot. ap (λ (o : Option SyncObject). get_or (clock_of set.slots era o) slot 0) (none addr part) ∙ get_or-cleared set.slots slot;
      eras = λ addr part o found. let no : None ≡ Some o = sym (none addr part) ∙ found in absurd (cc);
    }

pub keeps-reserved : (covers : ℕ → Bool) (era : ℕ) (k : Clocks) (set : SyncObjects) (spare : ℕ) → KeepsChannels covers era k set → KeepsChannels covers era k (record set { spare = spare })
keeps-reserved covers era k set spare keeps = record {
  objects = record { distinct = keeps.objects.distinct; long = keeps.objects.long };
  clocks = keeps.clocks;
  eras = keeps.eras;
}

-- what an Acquire makes of the thread's clock
neither : (b : Bool) → ◌≡◌ {A = ℕ} (if b then 0 else 0) 0
neither true = refl
neither false = refl

pub acquired : (g : ℕ) (l : Labels) (covers : ℕ → Bool) (era t addr : ℕ) (part : Part) (k : Clocks) (set : SyncObjects) (clock : List ℕ) → KeepsChannels covers era k set → covers addr ≡ true → length clock ≡ set.slots → IsClock clock (k.thread t) → IsClock (joined clock (clock_in set era addr part)) ((event_clocks g l k t (Acquire addr part)).thread t)
acquired g l covers era t addr part k set clock keeps covered long is s =
    let same : length clock ≡ length (clock_in set era addr part) = long ∙ sym (length-clock_in set era addr part keeps.objects) in
    let none : raised g l t (Acquire addr part) s ≡ 0 = neither (holds (l.slot_of t) s && nat_lt (l.epoch s) g) in
    rw (get_or-joined clock (clock_in set era addr part) s same, is s, keeps.clocks addr part covered s, eq-eqb t t refl, none) (sym (add-zero (max (k.thread t s) (k.spot (Of (Channel addr part)) s))))

-- an event that neither empties a spot nor leaves a clock there keeps it
spot_kept : (g : ℕ) (l : Labels) (k : Clocks) (t : ℕ) (e : Event) (y : Spot) (s : ℕ) → empties l t e y ≡ false → leaves l t e y ≡ false → (event_clocks g l k t e).spot y s ≡ k.spot y s
spot_kept g l k t e y s not_emptied not_left =
    ap₂ (λ (x z : Bool). max (if x then 0 else k.spot y s) (if z then k.thread t s else 0)) not_emptied not_left ∙ max-zero (k.spot y s)

-- the tests of a name and of a channel
abbrev is_at : ℕ → Part → ℕ → Part → Bool
is_at addr part a p = (addr == a) && same_part part p

is_at-flip : (addr : ℕ) (part : Part) (a : ℕ) (p : Part) → is_at addr part a p ≡ is_at a p addr part
is_at-flip addr part a p = same_id_equiv.symm (record { addr = addr; part = part }) (record { addr = a; part = p })

is_at-true : (addr : ℕ) (part : Part) (a : ℕ) (p : Part) → is_at addr part a p ≡ true → (addr ≡ a) × (part ≡ p)
is_at-true addr part a p same =
    let one = same_id-true (record { addr = addr; part = part }) (record { addr = a; part = p }) same in
    (ap (λ (id : ObjectId). id.addr) one, ap (λ (id : ObjectId). id.part) one)

-- a Release keeps the other channels
other_channel : (g : ℕ) (l : Labels) (k : Clocks) (t addr : ℕ) (part : Part) (replaces : Bool) (a : ℕ) (p : Part) (s : ℕ) → is_at a p addr part ≡ false → (event_clocks g l k t (Release addr part replaces)).spot (Of (Channel a p)) s ≡ k.spot (Of (Channel a p)) s
other_channel g l k t addr part replaces a p s differs =
    let not_emptied : replaces && is_at a p addr part ≡ false = ap (λ b. replaces && b) differs ∙ elim replaces as (λ r. r && false ≡ false) [ true ↦ refl | false ↦ refl ] in
    spot_kept g l k t (Release addr part replaces) (Of (Channel a p)) s not_emptied (is_at-flip addr part a p ∙ differs)

module _ (g : ℕ) (l : Labels) (covers : ℕ → Bool) (era t addr : ℕ) (part : Part) (replaces : Bool) (k : Clocks) (old new : SyncObjects) (put : List ℕ)
    (keeps : KeepsChannels covers era k old) (puts : Puts old new (record { addr = addr; part = part; era = era; clock = put })) (objects : AreObjects new)
    (own : covers addr ≡ true → IsClock put ((event_clocks g l k t (Release addr part replaces)).spot (Of (Channel addr part)))) where
  own_clock : covers addr ≡ true → (s : ℕ) → get_or (clock_in new era addr part) s 0 ≡ (event_clocks g l k t (Release addr part replaces)).spot (Of (Channel addr part)) s
  own_clock covered s =
      ap (λ (c : List ℕ). get_or c s 0) (clock_of-this_era new.slots era (object_at new addr part) (record { addr = addr; part = part; era = era; clock = put }) puts.there refl) ∙ own covered s

  same_clock : (a : ℕ) (p : Part) → is_at a p addr part ≡ false → clock_in new era a p ≡ clock_in old era a p
  same_clock a p differs = ap₂ (λ (n : ℕ) (o : Option SyncObject). clock_of n era o) puts.slots (puts.others a p differs)

  pub released : KeepsChannels covers era (event_clocks g l k t (Release addr part replaces)) new
  released = record {
    objects = objects;
    clocks = λ a p covered s. elim (cases_Bool (is_at a p addr part)) [
      | inl same ↦
          let is = is_at-true a p addr part same in
          rw (is.0, is.1) (own_clock (ap covers (sym is.0) ∙ covered) s)
      | inr differs ↦
          ap (λ (c : List ℕ). get_or c s 0) (same_clock a p differs) ∙ (keeps.clocks a p covered s ∙ sym (other_channel g l k t addr part replaces a p s differs))
    ];
    eras = λ a p o found. elim (cases_Bool (is_at a p addr part)) [
      | inl same ↦
          let is = is_at-true a p addr part same in
          let here : object_at new addr part ≡ Some o = ap₂ (λ (x : ℕ) (y : Part). object_at new x y) (sym is.0) (sym is.1) ∙ found in
          let one : Some (record { addr = addr; part = part; era = era; clock = put }) ≡ Some o = sym puts.there ∙ here in
          let this : era ≡ o.era = ap (λ (it : Option SyncObject). era_or it 0) one in
          omega arith
      | inr differs ↦ keeps.eras a p o (sym (puts.others a p differs) ∙ found)
    ];
  }
    where
      era_or : Option SyncObject → ℕ → ℕ
      era_or None d = d
      era_or (Some it) d = it.era

pub release_joined : (g : ℕ) (l : Labels) (covers : ℕ → Bool) (era t addr : ℕ) (part : Part) (k : Clocks) (old new : SyncObjects) (clock : List ℕ) → KeepsChannels covers era k old → length clock ≡ old.slots → IsClock clock (k.thread t) → Puts old new (record { addr = addr; part = part; era = era; clock = joined (clock_in old era addr part) clock }) → AreObjects new → KeepsChannels covers era (event_clocks g l k t (Release addr part false)) new
release_joined g l covers era t addr part k old new clock keeps long is puts objects =
    released g l covers era t addr part false k old new (joined (clock_in old era addr part) clock) keeps puts objects (λ covered s.
    let same : length (clock_in old era addr part) ≡ length clock = length-clock_in old era addr part keeps.objects ∙ sym long in
    let left : is_at addr part addr part ≡ true = same_id-refl (record { addr = addr; part = part }) in
    rw (get_or-joined (clock_in old era addr part) clock s same, is s, keeps.clocks addr part covered s) (ap (λ b. max (k.spot (Of (Channel addr part)) s) (if b then k.thread t s else 0)) (sym left)))

pub release_replaced : (g : ℕ) (l : Labels) (covers : ℕ → Bool) (era t addr : ℕ) (part : Part) (k : Clocks) (old new : SyncObjects) (clock : List ℕ) → KeepsChannels covers era k old → IsClock clock (k.thread t) → Puts old new (record { addr = addr; part = part; era = era; clock = clock }) → AreObjects new → KeepsChannels covers era (event_clocks g l k t (Release addr part true)) new
release_replaced g l covers era t addr part k old new clock keeps is puts objects =
    released g l covers era t addr part true k old new clock keeps puts objects (λ covered s.
    let left : is_at addr part addr part ≡ true = same_id-refl (record { addr = addr; part = part }) in
    is s ∙ (sym (zero-max (k.thread t s)) ∙ ap (λ b. max (if b then 0 else k.spot (Of (Channel addr part)) s) (if b then k.thread t s else 0)) (sym left)))

pub destroyed : (g : ℕ) (l : Labels) (covers : ℕ → Bool) (era t addr : ℕ) (k : Clocks) (old new : SyncObjects) → KeepsChannels covers era k old → Ends old new addr → AreObjects new → KeepsChannels covers era (event_clocks g l k t (Destroy addr)) new
destroyed g l covers era t addr k old new keeps ends objects = record {
  objects = objects;
  clocks = λ a p covered s. elim (cases_eq a addr) [
    | inl here ↦
        let none : object_at new a p ≡ None = ap (λ (x : ℕ). object_at new x p) here ∙ ends.gone p in
        ap (λ (o : Option SyncObject). get_or (clock_of new.slots era o) s 0) none ∙ (get_or-cleared new.slots s ∙ ap (λ b. max (if b then 0 else k.spot (Of (Channel a p)) s) 0) (sym (eq-eqb a addr here)))
    | inr elsewhere ↦
        let same : clock_in new era a p ≡ clock_in old era a p = ap₂ (λ (n : ℕ) (o : Option SyncObject). clock_of n era o) ends.slots (ends.others a p elsewhere) in
        ap (λ (c : List ℕ). get_or c s 0) same ∙ (keeps.clocks a p covered s ∙ sym (spot_kept g l k t (Destroy addr) (Of (Channel a p)) s (ne_eqb a addr elsewhere) refl))
  ];
  eras = λ a p o found. elim (cases_eq a addr) [
    | inl here ↦
        let none : None ≡ Some o = sym (ap (λ (x : ℕ). object_at new x p) here ∙ ends.gone p) ∙ found in
        absurd (cc)
    | inr elsewhere ↦ keeps.eras a p o (sym (ends.others a p elsewhere) ∙ found)
  ];
}

pub cleared : (g : ℕ) (l : Labels) (covers : ℕ → Bool) (era t addr : ℕ) (k : Clocks) (old new : SyncObjects) → KeepsChannels covers era k old → Removes old new addr Main → AreObjects new → KeepsChannels covers era (event_clocks g l k t (Clear addr)) new
cleared g l covers era t addr k old new keeps removes objects = record {
  objects = objects;
  clocks = λ a p covered s. elim (cases_Bool (is_at a p addr Main)) [
    | inl here ↦
        let is = is_at-true a p addr Main here in
        let none : object_at new a p ≡ None = ap₂ (λ (x : ℕ) (y : Part). object_at new x y) is.0 is.1 ∙ removes.gone in
        ap (λ (o : Option SyncObject). get_or (clock_of new.slots era o) s 0) none
        ∙ (get_or-cleared new.slots s ∙ ap (λ b. max (if b then 0 else k.spot (Of (Channel a p)) s) 0) (sym here))
    | inr differs ↦
        let same : clock_in new era a p ≡ clock_in old era a p =
        ap₂ (λ (n : ℕ) (o : Option SyncObject). clock_of n era o) removes.slots (removes.others a p differs) in
        ap (λ (c : List ℕ). get_or c s 0) same
        ∙ (keeps.clocks a p covered s ∙ sym (spot_kept g l k t (Clear addr) (Of (Channel a p)) s differs refl))
  ];
  eras = λ a p o found. elim (cases_Bool (is_at a p addr Main)) [
    | inl here ↦
        let is = is_at-true a p addr Main here in
        let none : None ≡ Some o = sym (ap₂ (λ (x : ℕ) (y : Part). object_at new x y) is.0 is.1 ∙ removes.gone) ∙ found in
        absurd (cc)
    | inr differs ↦ keeps.eras a p o (sym (removes.others a p differs) ∙ found)
  ];
}

-- an event elsewhere
apart_addr : (covers : ℕ → Bool) (a addr : ℕ) → covers a ≡ true → covers addr ≡ false → (a == addr) ≡ false
apart_addr covers a addr covered not_covered = ne_eqb a addr (λ same. let both = sym covered ∙ (ap covers same ∙ not_covered) in cc)

untouched : (l : Labels) (covers : ℕ → Bool) (t : ℕ) (e : Event) (a : ℕ) (p : Part) → IsElsewhere covers e → covers a ≡ true → (empties l t e (Of (Channel a p)) ≡ false) × (leaves l t e (Of (Channel a p)) ≡ false)
untouched l covers t (Release addr part replaces) a p not_covered covered =
    let differs : is_at a p addr part ≡ false = ap (λ b. b && same_part p part) (apart_addr covers a addr covered not_covered) in
    (ap (λ b. replaces && b) differs ∙ elim replaces as (λ r. r && false ≡ false) [ true ↦ refl | false ↦ refl ], is_at-flip addr part a p ∙ differs)
untouched l covers t (Destroy addr) a p not_covered covered = (apart_addr covers a addr covered not_covered, refl)
untouched l covers t (Clear addr) a p not_covered covered = (ap (λ b. b && same_part p Main) (apart_addr covers a addr covered not_covered), refl)
untouched l covers t _ a p elsewhere covered = (refl, refl)

pub keeps-elsewhere : (g : ℕ) (l : Labels) (covers : ℕ → Bool) (era t : ℕ) (e : Event) (k : Clocks) (set : SyncObjects) → IsElsewhere covers e → KeepsChannels covers era k set → KeepsChannels covers era (event_clocks g l k t e) set
keeps-elsewhere g l covers era t e k set elsewhere keeps = record {
  objects = keeps.objects;
  clocks = λ addr part covered s.
      let same = untouched l covers t e addr part elsewhere covered in
      keeps.clocks addr part covered s ∙ sym (spot_kept g l k t e (Of (Channel addr part)) s same.0 same.1);
  eras = keeps.eras;
}

pub keeps-note : (g : ℕ) (l : Labels) (covers : ℕ → Bool) (era t : ℕ) (note : DeskNote) (k : Clocks) (set : SyncObjects) → KeepsChannels covers era k set → KeepsChannels covers era (next_clocks g l k (Notes t note)) set
keeps-note g l covers era t Nothing k set keeps = keeps
keeps-note g l covers era t (Attach a) k set keeps = record {
  objects = keeps.objects;
  clocks = λ addr part covered s. keeps.clocks addr part covered s ∙ elim (can_attach l t a.sid) as (λ b. k.spot (Of (Channel addr part)) s ≡ (if b then attach_clocks l k t a.sid else k).spot (Of (Channel addr part)) s) [ true ↦ refl | false ↦ refl ];
  eras = keeps.eras;
}
keeps-note g l covers era t (Leave a) k set keeps = keeps

-- where an era begins nothing is left at any channel
pub keeps-new_era : (g : ℕ) (l : Labels) (covers : ℕ → Bool) (era : ℕ) (k : Clocks) (set : SyncObjects) → KeepsChannels covers era k set → KeepsChannels covers (era + 1) (next_clocks g l k NewEra) set
keeps-new_era g l covers era k set keeps = record {
  objects = keeps.objects;
  clocks = λ addr part covered s.
      ap (λ (c : List ℕ). get_or c s 0) (clock_of-other_era set.slots (era + 1) (object_at set addr part) (λ o found same. let past = keeps.eras addr part o found in omega arith)) ∙ get_or-cleared set.slots s;
  eras = λ addr part o found. let past = keeps.eras addr part o found in omega arith;
}

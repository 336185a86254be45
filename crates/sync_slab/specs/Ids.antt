-- The names of synchronisation objects.
use Rattle.std.specs.Prelude.{◌≡◌, Bool, true, false, ◌==◌, ◌&&◌, refl}
use Rattle.std.specs.Cmp.{IsEquivalence, decided}
use Rattle.std.proofs.Common.{eqb-true, eq-eqb}
use Rattle.std.proofs.lemmas.Bool.{and_parts, and_from}
use Rattle.run_record.specs.declared.event.Part.{Part}
use Rattle.run_record.specs.declared.event.Part.TheVariants.{Main, Readers}
use Rattle.run_laws.specs.HappensBefore.{same_part}
use Rattle.sync_slab.specs.declared.id.ObjectId.{ObjectId}

-- the part as the flag that is hashed
abbrev pub is_readers : Part → Bool
is_readers Main = false
is_readers Readers = true

-- the test by which the index finds a name
abbrev pub same_id : ObjectId → ObjectId → Bool
same_id a b = (a.addr == b.addr) && same_part a.part b.part

-- it finds out whether two names are one
pub same_part-refl : (p : Part) → same_part p p ≡ true
same_part-refl Main = refl
same_part-refl Readers = refl

pub same_part-true : (p q : Part) → same_part p q ≡ true → p ≡ q
same_part-true Main Main e = refl
same_part-true Readers Readers e = refl
same_part-true Main Readers e = cc
same_part-true Readers Main e = cc

pub same_id-refl : (a : ObjectId) → same_id a a ≡ true
same_id-refl a = and_from (a.addr == a.addr) (same_part a.part a.part) (eq-eqb a.addr a.addr refl) (same_part-refl a.part)

pub same_id-true : (a b : ObjectId) → same_id a b ≡ true → a ≡ b
same_id-true a b same =
    let both = and_parts (a.addr == b.addr) (same_part a.part b.part) same in
    let addr = eqb-true a.addr b.addr both.0 in
    let part = same_part-true a.part b.part both.1 in
    λ i. record { addr = addr i; part = part i }

pub same_id_equiv : IsEquivalence same_id
same_id_equiv = decided same_id (λ a b. (same_id-true a b, λ e. rw (← e) (same_id-refl a)))

-- One block of an access after another.
use Rattle.std.proofs.Common.{◌≡◌, ◌≢◌, ℕ, suc, ◌+◌, ◌-◌, ◌*◌, ◌<◌, ◌≤◌, ◌==◌, if◌then◌else◌, Bool, true, false, List, [], ◌∷◌, Option, Some, None, refl, ap, ◌∙◌, arith, eq-eqb, ne_eqb}
use Rattle.std.specs.Prelude.{map, filter_map, option_map}
use Rattle.std.specs.List.{cons_option}
use Rattle.run_laws.specs.Numbers.{up_from}
use Rattle.run_laws.specs.Accesses.{Access, Part, mask_in, part_in}
use Rattle.race_core.specs.Walk.{pair_of}

-- the parts in so many blocks from one on
abbrev pub parts_from : (ℕ → Option ℕ) → Access → ℕ → ℕ → List (ℕ × ℕ)
parts_from granule_of a block count = map pair_of (filter_map (part_in granule_of a) (up_from block count))

one_block : (granule_of : ℕ → Option ℕ) (a : Access) (block end : ℕ) → block < end →
    parts_from granule_of a block (end - block) ≡ map pair_of (cons_option (part_in granule_of a block) (filter_map (part_in granule_of a) (up_from (block + 1) (end - (block + 1)))))
one_block granule_of a block end l =
    let e : end - block ≡ suc (end - (block + 1)) = omega arith in
    let f : suc block ≡ block + 1 = omega arith in
    rw e (ap (λ (n : ℕ). map pair_of (cons_option (part_in granule_of a block) (filter_map (part_in granule_of a) (up_from n (end - (block + 1)))))) f)

abbrev with_mask : ℕ → ℕ → Part
with_mask mask granule = record { granule = granule; mask = mask }

part_no_bytes : (granule_of : ℕ → Option ℕ) (a : Access) (block : ℕ) → mask_in a block ≡ 0 → part_in granule_of a block ≡ None
part_no_bytes granule_of a block e = rw (eq-eqb (mask_in a block) 0 e) refl

part_no_granule : (granule_of : ℕ → Option ℕ) (a : Access) (block : ℕ) → granule_of (8 * block) ≡ None → part_in granule_of a block ≡ None
part_no_granule granule_of a block e = go (mask_in a block == 0) (granule_of (8 * block)) e
  where
    go : (b : Bool) (o : Option ℕ) → o ≡ None → (if b then None else option_map (with_mask (mask_in a block)) o) ≡ None
    go true o e = refl
    go false o e = rw e refl

part_some : (granule_of : ℕ → Option ℕ) (a : Access) (block g : ℕ) → mask_in a block ≢ 0 → granule_of (8 * block) ≡ Some g → part_in granule_of a block ≡ Some (with_mask (mask_in a block) g)
part_some granule_of a block g n e = go (mask_in a block == 0) (granule_of (8 * block)) (ne_eqb (mask_in a block) 0 n) e
  where
    go : (b : Bool) (o : Option ℕ) → b ≡ false → o ≡ Some g → (if b then None else option_map (with_mask (mask_in a block)) o) ≡ Some (with_mask (mask_in a block) g)
    go true o z e = absurd (cc)
    go false o z e = rw e refl

pub past_no_bytes : (granule_of : ℕ → Option ℕ) (a : Access) (block end : ℕ) → block < end → mask_in a block ≡ 0 → parts_from granule_of a block (end - block) ≡ parts_from granule_of a (block + 1) (end - (block + 1))
past_no_bytes granule_of a block end l e =
    one_block granule_of a block end l ∙ ap (λ (o : Option Part). map pair_of (cons_option o (filter_map (part_in granule_of a) (up_from (block + 1) (end - (block + 1)))))) (part_no_bytes granule_of a block e)

pub past_no_granule : (granule_of : ℕ → Option ℕ) (a : Access) (block end : ℕ) → block < end → granule_of (8 * block) ≡ None → parts_from granule_of a block (end - block) ≡ parts_from granule_of a (block + 1) (end - (block + 1))
past_no_granule granule_of a block end l e =
    one_block granule_of a block end l ∙ ap (λ (o : Option Part). map pair_of (cons_option o (filter_map (part_in granule_of a) (up_from (block + 1) (end - (block + 1)))))) (part_no_granule granule_of a block e)

pub first_part : (granule_of : ℕ → Option ℕ) (a : Access) (block end g : ℕ) → block < end → mask_in a block ≢ 0 → granule_of (8 * block) ≡ Some g →
    parts_from granule_of a block (end - block) ≡ (g, mask_in a block) ∷ parts_from granule_of a (block + 1) (end - (block + 1))
first_part granule_of a block end g l n e =
    one_block granule_of a block end l ∙ ap (λ (o : Option Part). map pair_of (cons_option o (filter_map (part_in granule_of a) (up_from (block + 1) (end - (block + 1)))))) (part_some granule_of a block g n e)

pub no_part : (granule_of : ℕ → Option ℕ) (a : Access) (block end : ℕ) → end ≤ block → parts_from granule_of a block (end - block) ≡ []
no_part granule_of a block end l = let e : end - block ≡ 0 = omega arith in rw e refl

-- The parts of an access: their masks, their granules, and how many there are.
use Rattle.std.proofs.Common.{◌≡◌, ◌≢◌, ℕ, zero, suc, ◌+◌, ◌-◌, ◌*◌, ◌/◌, ◌^◌, ◌<◌, ◌≤◌, ◌==◌, min, if◌then◌else◌, Bool, true, false, List, [], ◌∷◌, length, Option, Some, None, refl, sym, ap, subst, ◌∙◌, inl, inr, arith, eq-eqb}
use Rattle.std.specs.Prelude.{map, filter_map, option_map, All, AllPairs, Ok}
use Rattle.std.specs.List.{cons_option}
use Rattle.std.proofs.Math.Pow.{pow_mono}
use Rattle.std.proofs.lemmas.Nat.{pow_pos}
use Rattle.std.proofs.lemmas.Bool.{cases_eq, cases_lt}
use Rattle.elf_image.specs.Regions.{block}
use Rattle.elf_image.specs.File.{image_of, granule_of, granules_of, granule_address}
use Rattle.elf_image.proofs.MemoryLaws.{granule_below, granule_address-of, addresses_rise}
use Rattle.run_laws.specs.Numbers.{up_from}
use Rattle.run_laws.specs.Accesses.{Access, Part, end_of, mask_in, part_in}
use Rattle.race_core.specs.Walk.{pair_of, planned}
use Rattle.race_core.proofs.WalkLaws.{parts_from}

-- what is known of a part in a block
pub record IsIn (at : ℕ → Option ℕ) (a : Access) (block : ℕ) (p : Part) : Type 0 where
  pub some : p.mask ≢ 0
  pub mask : p.mask ≡ mask_in a block
  pub granule : at (8 * block) ≡ Some p.granule

abbrev with_mask : ℕ → ℕ → Part
with_mask mask granule = record { granule = granule; mask = mask }

part_found : (at : ℕ → Option ℕ) (a : Access) (block : ℕ) (p : Part) → part_in at a block ≡ Some p → IsIn at a block p
part_found at a block p e = go (mask_in a block == 0) (at (8 * block)) refl refl e
  where
    go : (b : Bool) (o : Option ℕ) → (mask_in a block == 0) ≡ b → at (8 * block) ≡ o → (if b then None else option_map (with_mask (mask_in a block)) o) ≡ Some p → IsIn at a block p
    go true o z r q = absurd (cc)
    go false None z r q = absurd (cc)
    go false (Some g) z r q =
        let s : with_mask (mask_in a block) g ≡ p = cc in
        let m : mask_in a block ≡ p.mask = ap (λ (x : Part). x.mask) s in
        record { some = λ n. let y = sym z ∙ eq-eqb (mask_in a block) 0 (m ∙ n) in cc; mask = sym m; granule = r ∙ ap (λ (x : Part). Some x.granule) s }

all_none : (P : ℕ × ℕ → Type 0) → All P []
all_none P k d l = absurd (omega arith)

all_cons : (P : ℕ × ℕ → Type 0) (x : ℕ × ℕ) (xs : List (ℕ × ℕ)) → P x → All P xs → All P (x ∷ xs)
all_cons P x xs here there zero d l = here
all_cons P x xs here there (suc k) d l = there k d (omega arith)

pairs_none : (R : ℕ × ℕ → ℕ × ℕ → Type 0) → AllPairs R []
pairs_none R i j d l m = absurd (omega arith)

pairs_cons : (R : ℕ × ℕ → ℕ × ℕ → Type 0) (x : ℕ × ℕ) (xs : List (ℕ × ℕ)) → All (R x) xs → AllPairs R xs → AllPairs R (x ∷ xs)
pairs_cons R x xs here there i zero d l m = absurd (omega arith)
pairs_cons R x xs here there zero (suc j) d l m = here j d (omega arith)
pairs_cons R x xs here there (suc i) (suc j) d l m = there i j d (omega arith) (omega arith)

-- what holds of a part in any block from one on holds of all parts from there on
all_from : (at : ℕ → Option ℕ) (a : Access) (P : ℕ × ℕ → Type 0) (k : ℕ) → ((block : ℕ) (p : Part) → k ≤ block → IsIn at a block p → P (pair_of p)) → (n : ℕ) → All P (parts_from at a k n)
all_from at a P k f zero = all_none P
all_from at a P k f (suc n) = go (all_from at a P (suc k) (λ block p l. f block p (omega arith)) n) (part_in at a k) refl
  where
    go : All P (parts_from at a (suc k) n) → (o : Option Part) → part_in at a k ≡ o → All P (map pair_of (cons_option o (filter_map (part_in at a) (up_from (suc k) n))))
    go rest None e = rest
    go rest (Some p) e = all_cons P (pair_of p) (parts_from at a (suc k) n) (f k p (omega arith) (part_found at a k p e)) rest

pairs_from :
    (at : ℕ → Option ℕ) (a : Access) (R : ℕ × ℕ → ℕ × ℕ → Type 0) → ((b c : ℕ) (p q : Part) → b < c → IsIn at a b p → IsIn at a c q → R (pair_of p) (pair_of q)) →
    (k n : ℕ) → AllPairs R (parts_from at a k n)
pairs_from at a R f k zero = pairs_none R
pairs_from at a R f k (suc n) = go (pairs_from at a R f (suc k) n) (part_in at a k) refl
  where
    go : AllPairs R (parts_from at a (suc k) n) → (o : Option Part) → part_in at a k ≡ o → AllPairs R (map pair_of (cons_option o (filter_map (part_in at a) (up_from (suc k) n))))
    go rest None e = rest
    go rest (Some p) e = pairs_cons R (pair_of p) (parts_from at a (suc k) n) (all_from at a (R (pair_of p)) (suc k) (λ block q l is. f k block p q (omega arith) (part_found at a k p e) is) n) rest

-- masks are of eight bits
mask_small : (a : Access) (block : ℕ) → mask_in a block < 2 ^ 8
mask_small a block =
    let high : 2 ^ min (end_of a - 8 * block) 8 ≤ 2 ^ 8 = pow_mono {i = min (end_of a - 8 * block) 8} {j = 8} (omega arith) in
    let low = pow_pos (min (a.addr - 8 * block) 8) in
    smaller (2 ^ min (end_of a - 8 * block) 8) (2 ^ min (a.addr - 8 * block) 8) high low
  where
    smaller : (x y : ℕ) → x ≤ 2 ^ 8 → 0 < y → x - y < 2 ^ 8
    smaller x y p q = omega arith

pub with_bytes : (file : List ℕ) (a : Access) → All (λ (p : ℕ × ℕ). (p.1 ≢ 0) × (p.1 < 2 ^ 8)) (planned file a)
with_bytes file a = all_from (granule_of file) a (λ (p : ℕ × ℕ). (p.1 ≢ 0) × (p.1 < 2 ^ 8)) (a.addr / 8) (λ block p l is. (is.some, subst (λ (m : ℕ). m < 2 ^ 8) (sym is.mask) (mask_small a block))) ((end_of a + 7) / 8 - a.addr / 8)

few_from : (at : ℕ → Option ℕ) (a : Access) (k n : ℕ) → length (parts_from at a k n) ≤ n
few_from at a k zero = omega arith
few_from at a k (suc n) = go (few_from at a (suc k) n) (part_in at a k)
  where
    go : length (parts_from at a (suc k) n) ≤ n → (o : Option Part) → length (map pair_of (cons_option o (filter_map (part_in at a) (up_from (suc k) n)))) ≤ suc n
    go rest None = omega arith
    go rest (Some p) = omega arith

pub few_parts : (file : List ℕ) (a : Access) → a.size ≤ 65536 → length (planned file a) ≤ 8193
few_parts file a small =
    let n = few_from (granule_of file) a (a.addr / 8) ((end_of a + 7) / 8 - a.addr / 8) in
    let e : end_of a ≤ a.addr + 65536 = omega arith in
    let c : (end_of a + 7) / 8 - a.addr / 8 ≤ 8193 = blocks a.addr (end_of a) e in
    omega arith
  where
    blocks : (x y : ℕ) → y ≤ x + 65536 → (y + 7) / 8 - x / 8 ≤ 8193
    blocks x y l = omega arith

pub of_granules : (file : List ℕ) (a : Access) → image_of file ≡ Ok file → All (λ (p : ℕ × ℕ). p.0 < granules_of file) (planned file a)
of_granules file a accepted =
    all_from (granule_of file) a (λ (p : ℕ × ℕ). p.0 < granules_of file) (a.addr / 8) (λ block p l is. granule_below file (8 * block) p.granule accepted is.granule) ((end_of a + 7) / 8 - a.addr / 8)

-- granules rise with their addresses
granules_rise : (file : List ℕ) (b c g k : ℕ) → image_of file ≡ Ok file → b < c → granule_of file (8 * b) ≡ Some g → granule_of file (8 * c) ≡ Some k → g < k
granules_rise file b c g k accepted l here there =
    let x : granule_address file g ≡ 8 * (8 * b / 8) = granule_address-of file (8 * b) g accepted here in
    let y : granule_address file k ≡ 8 * (8 * c / 8) = granule_address-of file (8 * c) k accepted there in
    elim (cases_lt g k) [
      | inl m ↦ m
      | inr m ↦ elim (cases_eq k g) [
        | inl e ↦ absurd (let z = ap (granule_address file) e in omega arith)
        | inr d ↦ absurd (let z = addresses_rise file k g accepted (omega arith) (granule_below file (8 * b) g accepted here) in omega arith)
      ]
    ]

pub rising : (file : List ℕ) (a : Access) → image_of file ≡ Ok file → AllPairs (λ (p q : ℕ × ℕ). p.0 < q.0) (planned file a)
rising file a accepted =
    pairs_from (granule_of file) a (λ (p q : ℕ × ℕ). p.0 < q.0) (λ b c p q l here there. granules_rise file b c p.granule q.granule accepted l here.granule there.granule) (a.addr / 8) ((end_of a + 7) / 8 - a.addr / 8)

-- What callers need of an accepted file.
use Rattle.std.proofs.Common.{◌≡◌, ℕ, zero, ◌<◌, ◌≤◌, Bool, true, false, not, ◌&&◌, ◌||◌, List, [], ◌∷◌, map, Option, Some, None, is_some, Ok, refl, sym, ap, ◌∙◌, inl, inr, if◌then◌else◌, arith}
use Rattle.std.proofs.lemmas.Bool.{cases_Bool, not-false}
use Rattle.std.proofs.lemmas.List.Sorted.{Contains-permutation, IsPermutation-map}
use Rattle.std.specs.List.{list_any, Contains}
use Rattle.elf_image.specs.declared.region.Region.{Region}
use Rattle.elf_image.specs.declared.fault.ElfFault.TheVariants.{Overlap, TooMuchMemory, EntryOutside}
use Rattle.elf_image.specs.Headers.{region, stack}
use Rattle.elf_image.specs.Regions.{contains, block, RisesFrom, is_writable_in, is_constant_in}
use Rattle.elf_image.specs.File.{image_of, segments, segments_of, by_address, regions_of, entry, is_code, is_mapped, is_writable_at, granule_of, granules_of, granule_address, constant_word, memory_fault, has_overlap, needs_too_much}
use Rattle.elf_image.proofs.Order.{IsPermutation-by_address}
use Rattle.elf_image.proofs.Accepting.{no_fault, orderly, if_none}
use Rattle.elf_image.proofs.Rising.{granule_in-start, granule_in-block, granule_start-rises, is_some-granule_in, numbered, any_below, bounds_of}

pub regions_rise : (file : List ℕ) → image_of file ≡ Ok file → RisesFrom 0 (regions_of file)
regions_rise file accepted = (orderly file accepted).rises

pub few_granules : (file : List ℕ) → image_of file ≡ Ok file → granules_of file ≤ 532480
few_granules file accepted = (orderly file accepted).few

pub granule_of-address : (file : List ℕ) (g : ℕ) → image_of file ≡ Ok file → g < granules_of file → granule_of file (granule_address file g) ≡ Some g
granule_of-address file g accepted lt =
    let d : Region = record { start = 0; end = 0; writable = false; executable = false } in
    granule_in-start (regions_of file) 0 g d (orderly file accepted).rises lt

pub granule_below : (file : List ℕ) (a g : ℕ) → image_of file ≡ Ok file → granule_of file a ≡ Some g → g < granules_of file
granule_below file a g accepted h = (numbered (regions_of file) 0 a g (orderly file accepted).rises h).below

pub granule_address-of : (file : List ℕ) (a g : ℕ) → image_of file ≡ Ok file → granule_of file a ≡ Some g → granule_address file g ≡ block a
granule_address-of file a g accepted h = (numbered (regions_of file) 0 a g (orderly file accepted).rises h).start

pub granule_of-block : (file : List ℕ) (a : ℕ) → image_of file ≡ Ok file → granule_of file (block a) ≡ granule_of file a
granule_of-block file a accepted = granule_in-block (regions_of file) 0 a (orderly file accepted).rises

pub one_block : (file : List ℕ) (a b g : ℕ) → image_of file ≡ Ok file → granule_of file a ≡ Some g → granule_of file b ≡ Some g → block a ≡ block b
one_block file a b g accepted first second =
    sym (granule_address-of file a g accepted first) ∙ granule_address-of file b g accepted second

pub addresses_rise : (file : List ℕ) (g h : ℕ) → image_of file ≡ Ok file → g < h → h < granules_of file → granule_address file g < granule_address file h
addresses_rise file g h accepted lt in' = granule_start-rises (regions_of file) 0 g h (orderly file accepted).rises lt in'

pub is_some-granule_of : (file : List ℕ) (a : ℕ) → image_of file ≡ Ok file → is_some (granule_of file a) ≡ is_writable_at file a
is_some-granule_of file a accepted = is_some-granule_in (regions_of file) 0 a (orderly file accepted).rises

-- an address of a region is writable or constant, and not both
is_some_if : (b : Bool) (w : ℕ) → is_some (if b then Some w else None) ≡ b
is_some_if true w = refl
is_some_if false w = refl

pub is_some-constant_word : (file : List ℕ) (a : ℕ) → is_some (constant_word file a) ≡ is_constant_in (regions_of file) a
unfolding constant_word
is_some-constant_word file a = is_some_if (is_constant_in (regions_of file) a) _

part_first : (w here rest write const : Bool) → rest ≡ (write || const) → (here || rest) ≡ (((w && here) || write) || ((not w && here) || const))
part_first true true rest write const e = refl
part_first true false rest write const e = e
part_first false true rest true const e = refl
part_first false true rest false const e = refl
part_first false false rest write const e = e

parts : (rs : List Region) (a : ℕ) → list_any (λ r. contains r a) rs ≡ (is_writable_in rs a || is_constant_in rs a)
parts [] a = refl
parts (r ∷ rs) a = part_first r.writable (contains r a) (list_any (λ r. contains r a) rs) (is_writable_in rs a) (is_constant_in rs a) (parts rs a)

pub is_mapped-parts : (file : List ℕ) (a : ℕ) → image_of file ≡ Ok file → is_mapped file a ≡ (is_some (granule_of file a) || is_some (constant_word file a))
is_mapped-parts file a accepted =
    parts (regions_of file) a ∙ rw (is_some-granule_of file a accepted, is_some-constant_word file a) refl

first_part : (w here write const : Bool) → here ≡ true → write ≡ false → const ≡ false → ((not w && here) || const) ≡ true → ((w && here) || write) ≡ false
first_part true here write const h n c both = absurd (cc)
first_part false here write const h n c both = n

later_part : (w here write const : Bool) → here ≡ false → ((not w && here) || const) ≡ true → (const ≡ true → write ≡ false) → ((w && here) || write) ≡ false
later_part true here write const h both rest = rw h (rest both)
later_part false here write const h both rest = rest (rw h at both)

-- of regions that rise, the one that has an address decides
one_part : (rs : List Region) (low a : ℕ) → RisesFrom low rs → is_constant_in rs a ≡ true → is_writable_in rs a ≡ false
one_part [] low a up h = refl
one_part (r ∷ rs) low a up h =
    elim (cases_Bool (contains r a)) [
      | inl here ↦
          let high = (bounds_of r a here).1 in
          let write = any_below (λ r. r.writable) rs r.end a up.2 high in
          let const = any_below (λ r. not r.writable) rs r.end a up.2 high in
          first_part r.writable (contains r a) (is_writable_in rs a) (is_constant_in rs a) here write const h
      | inr not_here ↦ later_part r.writable (contains r a) (is_writable_in rs a) (is_constant_in rs a) not_here h (one_part rs r.end a up.2)
    ]

none_of : (o : Option ℕ) → is_some o ≡ false → o ≡ None
none_of None h = refl
none_of (Some n) h = absurd (cc)

pub constant_has_no_granule : (file : List ℕ) (a w : ℕ) → image_of file ≡ Ok file → constant_word file a ≡ Some w → granule_of file a ≡ None
constant_has_no_granule file a w accepted h =
    let const : is_constant_in (regions_of file) a ≡ true = sym (is_some-constant_word file a) ∙ ap is_some h in
    let write = one_part (regions_of file) 0 a (orderly file accepted).rises const in
    none_of (granule_of file a) (is_some-granule_of file a accepted ∙ write)

-- the entry can be fetched
pub entry_is_code : (file : List ℕ) → image_of file ≡ Ok file → is_code file (entry file) ≡ true
unfolding memory_fault
entry_is_code file accepted =
    let none = no_fault file accepted in
    let apart = if_none (has_overlap (stack ∷ segments file)) Overlap _ none.of_memory in
    let little = if_none (needs_too_much (segments file)) TooMuchMemory _ apart.1 in
    let code = if_none (not (is_code file (entry file))) EntryOutside _ little.1 in
    not-false (is_code file (entry file)) code.0

-- the stack is among the regions
pub stack_is_region : (file : List ℕ) → Contains (regions_of file) (region stack)
unfolding regions_of segments_of
stack_is_region file =
    Contains-permutation (map region (stack ∷ segments file)) (map region (by_address (stack ∷ segments file))) (region stack)
    (IsPermutation-map region (stack ∷ segments file) (by_address (stack ∷ segments file)) (IsPermutation-by_address (stack ∷ segments file)))
    (zero, omega arith, refl)

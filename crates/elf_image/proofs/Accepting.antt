-- What an accepted file's segments and regions are like.
use Rattle.std.proofs.Common.{◌≡◌, ℕ, ◌*◌, ◌/◌, ◌≤◌, Bool, true, false, ltb, eqb, not, ◌||◌, List, [], ◌∷◌, length, get_or, map, Option, Some, None, Ok, refl, if◌then◌else◌, arith, lit≤}
use Rattle.std.proofs.lemmas.Bool.Decides.{nat_tests}
use Rattle.std.proofs.lemmas.List.Elements.{All-cons, filter_passes}
use Rattle.std.proofs.lemmas.List.Sums.{sum_by-cons}
use Rattle.std.proofs.lemmas.List.Sorted.{All-permutation, sum_by-IsPermutation}
use Rattle.std.specs.List.{All, sum_by}
use Rattle.std.specs.List.Sorted.{IsPermutation}
use Rattle.elf_image.specs.declared.fault.ElfFault.{ElfFault}
use Rattle.elf_image.specs.declared.header.ProgramHeader.{ProgramHeader}
use Rattle.elf_image.specs.Bytes.{u32_at}
use Rattle.elf_image.specs.Headers.{region, stack, takes_memory, is_outside, has_bad_sizes, is_writable, IsSound}
use Rattle.elf_image.specs.Regions.{size, granules_in, granule_count, RisesFrom}
use Rattle.elf_image.specs.File.{headers, segments, by_address, segments_of, regions_of, has_overlap, writable_bytes, needs_too_much, header_fault, segment_fault, memory_fault, judged, or_next, image_of}
use Rattle.elf_image.proofs.Order.{any_false, each_apart, by_address_rises, IsPermutation-by_address}

-- a chain of tests that finds no fault
pub if_none : (b : Bool) (fault : ElfFault) (next : Option ElfFault) → (if b then Some fault else next) ≡ None → (b ≡ false) × (next ≡ None)
if_none true fault next h = absurd (cc)
if_none false fault next h = (refl, h)

judged_none : (file : List ℕ) (o : Option ElfFault) → judged file o ≡ Ok file → o ≡ None
judged_none file None h = refl
judged_none file (Some fault) h = absurd (cc)

next_none : (first next : Option ElfFault) → or_next first next ≡ None → (first ≡ None) × (next ≡ None)
next_none None next h = (refl, h)
next_none (Some fault) next h = absurd (cc)

-- an accepted file passed each test
pub record HasNoFault (file : List ℕ) : Type 0 where
  pub of_header : header_fault file ≡ None
  pub of_segments : segment_fault (length file) (segments file) ≡ None
  pub of_memory : memory_fault file ≡ None

pub no_fault : (file : List ℕ) → image_of file ≡ Ok file → HasNoFault file
unfolding image_of
no_fault file h =
    let parts = next_none (header_fault file) (or_next (segment_fault (length file) (segments file)) (memory_fault file)) (judged_none file _ h) in
    let later = next_none (segment_fault (length file) (segments file)) (memory_fault file) parts.1 in
    record { of_header = parts.0; of_segments = later.0; of_memory = later.1 }

-- the segments of a file without a fault of sizes
sound_one : (len : ℕ) (h : ProgramHeader) → is_outside len h ≡ false → has_bad_sizes h ≡ false → takes_memory h ≡ true → IsSound len h
sound_one len h inside sizes takes = record {
  in_file = λ some. grind (arith, nat_tests);
  sizes = grind (arith, nat_tests);
  low = grind (arith, nat_tests);
  takes = grind (arith, nat_tests);
}

pub sound_segments : (len : ℕ) (file : List ℕ) → segment_fault len (segments file) ≡ None → All (IsSound len) (segments file)
unfolding segment_fault
sound_segments len file h k d lt =
    let some = (if_none _ _ _ h).1 in
    let inside = if_none _ _ _ some in
    let sizes = if_none _ _ _ inside.1 in
    sound_one len (get_or (segments file) k d)
    (any_false (is_outside len) (segments file) inside.0 k d lt)
    (any_false has_bad_sizes (segments file) sizes.0 k d lt)
    (filter_passes takes_memory (headers file) k d lt)

pub sound_stack : (len : ℕ) → IsSound len stack
sound_stack len = record { in_file = λ some. absurd (omega arith); sizes = lit≤ tt; low = lit≤ tt; takes = lit≤ tt }

pub sound_all : (len : ℕ) (file : List ℕ) → segment_fault len (segments file) ≡ None → All (IsSound len) (stack ∷ segments file)
sound_all len file h = All-cons (IsSound len) stack (segments file) (sound_stack len) (sound_segments len file h)

-- the regions by rising start, each apart from the next
pub regions_rise : (file : List ℕ) → segment_fault (length file) (segments file) ≡ None → has_overlap (stack ∷ segments file) ≡ false → RisesFrom 0 (regions_of file)
unfolding segments_of regions_of
regions_rise file h apart =
    by_address_rises (length file) (stack ∷ segments file) (sound_all (length file) file h) (each_apart (stack ∷ segments file) apart)

pub sound_of : (file : List ℕ) → segment_fault (length file) (segments file) ≡ None → All (IsSound (length file)) (segments_of file)
unfolding segments_of
sound_of file h =
    All-permutation (IsSound (length file)) (stack ∷ segments file) (by_address (stack ∷ segments file)) (IsPermutation-by_address (stack ∷ segments file)) (sound_all (length file) file h)

-- the granules are as few as the writable bytes
choice_le : (w : Bool) (n : ℕ) → 8 * (if w then n / 8 else 0) ≤ (if w then n else 0)
choice_le true n = omega arith
choice_le false n = omega arith

granules_le : (h : ProgramHeader) → 8 * granules_in (region h) ≤ writable_bytes h
unfolding region
granules_le h = choice_le (is_writable h) (size (region h))

pub count_le : (hs : List ProgramHeader) → 8 * granule_count (map region hs) ≤ sum_by writable_bytes hs
count_le [] = omega arith
count_le (h ∷ hs) =
    omega (arith, granules_le h, count_le hs, sum_by-cons granules_in (region h) (map region hs), sum_by-cons writable_bytes h hs)

stack_bytes : writable_bytes stack ≡ 65536
unfolding region
stack_bytes = refl

pub few_of : (hs ys : List ProgramHeader) → IsPermutation (stack ∷ hs) ys → needs_too_much hs ≡ false → granule_count (map region ys) ≤ 532480
few_of hs ys p little =
    let bound : sum_by writable_bytes hs ≤ 4194304 = grind (arith, nat_tests) in
    let all = sum_by-IsPermutation writable_bytes (stack ∷ hs) ys p in
    let parts = sum_by-cons writable_bytes stack hs in
    omega (arith, bound, all, parts, stack_bytes, count_le ys)

-- what a caller may know of an accepted file
pub record IsOrderly (file : List ℕ) : Type 0 where
  pub rises : RisesFrom 0 (regions_of file)
  pub sound : All (IsSound (length file)) (segments_of file)
  pub few : granule_count (regions_of file) ≤ 532480

pub orderly_from : (file : List ℕ) → segment_fault (length file) (segments file) ≡ None → has_overlap (stack ∷ segments file) ≡ false → needs_too_much (segments file) ≡ false → IsOrderly file
unfolding regions_of segments_of
orderly_from file h apart little = record {
  rises = regions_rise file h apart;
  sound = sound_of file h;
  few = few_of (segments file) (by_address (stack ∷ segments file)) (IsPermutation-by_address (stack ∷ segments file)) little;
}

pub orderly : (file : List ℕ) → image_of file ≡ Ok file → IsOrderly file
unfolding memory_fault
orderly file accepted =
    let none = no_fault file accepted in
    let apart = if_none _ _ _ none.of_memory in
    let little = if_none _ _ _ apart.1 in
    orderly_from file none.of_segments apart.0 little.0

-- an accepted file has its whole header
pub has_header : (file : List ℕ) → image_of file ≡ Ok file → 64 ≤ length file
unfolding header_fault
has_header file accepted =
    let passed : (ltb (length file) 64 || not (eqb (u32_at file 0) 0x464c457f)) ≡ false = (if_none _ _ _ (no_fault file accepted).of_header).0 in
    grind (arith, nat_tests)

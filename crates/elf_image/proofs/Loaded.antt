-- Loading: what the segments in order say of the file.
use Rattle.std.proofs.Common.{◌≡◌, ℕ, suc, ◌+◌, ◌%◌, ◌^◌, ◌<◌, ◌≤◌, Bool, true, false, eqb, ◌&&◌, List, [], ◌∷◌, length, get_or, map, Some, None, Ok, Err, refl, sym, ap, ◌∙◌, subst, inl, inr, arith}
use Rattle.std.proofs.lemmas.Bool.{cases_Bool}
use Rattle.std.proofs.lemmas.Bool.Decides.{nat_tests}
use Rattle.std.proofs.lemmas.List.{get_or-map}
use Rattle.std.proofs.lemmas.List.Elements.{All-head, All-tail}
use Rattle.std.proofs.lemmas.List.Sorted.{IsPermutation-sym, All-permutation, length_permutation}
use Rattle.std.specs.List.{All}
use Rattle.std.specs.List.Sorted.{IsPermutation, IsNonDecreasingBy}
use Rattle.elf_image.specs.declared.fault.ElfFault.{ElfFault}
use Rattle.elf_image.specs.declared.fault.ElfFault.TheVariants.{Overlap, TooMuchMemory, EntryOutside}
use Rattle.elf_image.specs.declared.header.ProgramHeader.{ProgramHeader}
use Rattle.elf_image.specs.declared.region.Region.{Region}
use Rattle.elf_image.specs.Headers.{region, stack, IsSound, IsLow}
use Rattle.elf_image.specs.Regions.{overlaps, granule_count, IsBlocks, RisesFrom, AreApart, IsTouched, FirstGranules, is_code_in}
use Rattle.elf_image.specs.File.{segments, segments_of, regions_of, has_overlap, needs_too_much, header_fault, segment_fault, memory_fault, judged, image_of, is_code, entry}
use Rattle.elf_image.specs.Accepted.{IsAccepted, IsReady}
use Rattle.elf_image.proofs.Pairs.{EachTwo, EachTwo-nil, EachTwo-cons, EachTwo-permutation}
use Rattle.elf_image.proofs.Order.{IsApart, apart_below, apart_above, each_apart, no_overlap, by_address_is, blocks_of, span_of}
use Rattle.elf_image.proofs.Rising.{at_least, blocks_at}
use Rattle.elf_image.proofs.Accepting.{sound_all, sound_segments, few_of}

apart_tail : (r : Region) (rs : List Region) → AreApart (r ∷ rs) → AreApart rs
apart_tail r rs apart k d lt =
    let next : suc k + 1 ≡ suc (k + 1) = omega arith in
    subst (λ (n : ℕ). (get_or rs k d).end ≤ (get_or (r ∷ rs) n d).start) next (apart (suc k) d (omega arith))

-- regions that begin at or above the end of the one before rise
rises_apart : (len low : ℕ) (h : ProgramHeader) (ys : List ProgramHeader) → All (IsSound len) (h ∷ ys) → low ≤ (region h).start → AreApart (map region (h ∷ ys)) → RisesFrom low (map region (h ∷ ys))
rises_apart len low h [] sound least apart = (least, blocks_of len h (All-head (IsSound len) h [] sound), tt)
rises_apart len low h (t ∷ ts) sound least apart =
    let next = apart 0 (region h) (omega arith) in
    let rest = rises_apart len (region h).end t ts (All-tail (IsSound len) h (t ∷ ts) sound) next (apart_tail (region h) (map region (t ∷ ts)) apart) in
    (least, blocks_of len h (All-head (IsSound len) h (t ∷ ts) sound), rest)

pub rises_from_apart : (len : ℕ) (ys : List ProgramHeader) → All (IsSound len) ys → AreApart (map region ys) → RisesFrom 0 (map region ys)
rises_from_apart len [] sound apart = tt
rises_from_apart len (h ∷ ys) sound apart = rises_apart len 0 h ys sound (omega arith) apart

pub length_regions : (hs : List ProgramHeader) → length (map region hs) ≡ length hs
length_regions [] = refl
length_regions (h ∷ hs) = ap suc (length_regions hs)

-- and no two of them share an address
each_from_rises : (low : ℕ) (ys : List ProgramHeader) → RisesFrom low (map region ys) → EachTwo IsApart ys
each_from_rises low [] up = EachTwo-nil IsApart
each_from_rises low (h ∷ ys) up =
    let above : (k : ℕ) (d : ProgramHeader) → k < length ys → (region h).end ≤ (region (get_or ys k d)).start =
    λ k d lt. subst (λ (r : Region). (region h).end ≤ r.start) (get_or-map region ys k d (region d) lt)
    (at_least (map region ys) (region h).end k (region d) up.2 (omega (arith, length_regions ys))) in
    EachTwo-cons IsApart h ys
    (λ k d lt. apart_below h (get_or ys k d) (above k d lt))
    (λ k d lt. apart_above (get_or ys k d) h (above k d lt))
    (each_from_rises (region h).end ys up.2)

-- segments in order of which none touches the next
pub record IsInPlace (file : List ℕ) (ys : List ProgramHeader) : Type 0 where
  pub apart : has_overlap (stack ∷ segments file) ≡ false
  pub are : ys ≡ segments_of file
  pub rises : RisesFrom 0 (map region ys)

pub in_place : (file : List ℕ) (ys : List ProgramHeader) → segment_fault (length file) (segments file) ≡ None → IsPermutation (stack ∷ segments file) ys → AreApart (map region ys) → IsInPlace file ys
unfolding segments_of
in_place file ys none moved apart =
    let all = stack ∷ segments file in
    let sound = sound_all (length file) file none in
    let up = rises_from_apart (length file) ys (All-permutation (IsSound (length file)) all ys moved sound) apart in
    let each = EachTwo-permutation IsApart ys all (IsPermutation-sym all ys moved) (each_from_rises 0 ys up) in
    record { apart = no_overlap all each; are = by_address_is (length file) all ys sound each moved up; rises = up }

-- neighbours that touch, the first of which begins lower, share an address
touch_overlap : (len : ℕ) (h t : ProgramHeader) → IsSound len t → h.address ≤ t.address → (region t).start < (region h).end → overlaps (region h) (region t) ≡ true
touch_overlap len h t sound le below =
    let first = span_of h in
    let second = span_of t in
    let own = (blocks_of len t sound).rises in
    let low : (region h).start < (region t).end = omega (arith, first.start, second.start, own) in
    grind (arith, nat_tests)

pub overlapping : (file : List ℕ) (ys : List ProgramHeader) → segment_fault (length file) (segments file) ≡ None → IsPermutation (stack ∷ segments file) ys → IsNonDecreasingBy (λ h. h.address) ys → IsTouched (map region ys) → has_overlap (stack ∷ segments file) ≡ true
overlapping file ys none moved rising touched =
    let all = stack ∷ segments file in
    let k = touched.index in
    let inside : k + 1 < length ys = omega (arith, touched.in_range, length_regions ys) in
    let sound = All-permutation (IsSound (length file)) all ys moved (sound_all (length file) file none) in
    let first : get_or (map region ys) k (region stack) ≡ region (get_or ys k stack) = get_or-map region ys k stack (region stack) (omega arith) in
    let second : get_or (map region ys) (k + 1) (region stack) ≡ region (get_or ys (k + 1) stack) = get_or-map region ys (k + 1) stack (region stack) inside in
    let below : (region (get_or ys (k + 1) stack)).start < (region (get_or ys k stack)).end =
    omega (arith, touched.below (region stack), ap (λ (r : Region). r.end) first, ap (λ (r : Region). r.start) second) in
    let shared = touch_overlap (length file) (get_or ys k stack) (get_or ys (k + 1) stack) (sound (k + 1) stack inside) (rising k (k + 1) stack (omega arith) inside) below in
    elim (cases_Bool (has_overlap all)) [
      | inl shares ↦ shares
      | inr none_shares ↦
          let each = EachTwo-permutation IsApart all ys moved (each_apart all none_shares) in
          let apart = each.at k (k + 1) stack (omega arith) inside (λ e. omega arith) in
          absurd (cc)
    ]

-- the answer for a file whose segments have no fault one by one
ready_image : (file : List ℕ) (read : List ProgramHeader) → IsReady file read → image_of file ≡ judged file (memory_fault file)
unfolding image_of
ready_image file read ready = rw (ready.of_header, ready.of_segments) refl

pub refused_overlap : (file : List ℕ) (read : List ProgramHeader) → IsReady file read → has_overlap (stack ∷ segments file) ≡ true → image_of file ≡ Err Overlap
unfolding memory_fault
refused_overlap file read ready shared = ready_image file read ready ∙ rw shared refl

pub refused_too_much : (file : List ℕ) (read : List ProgramHeader) → IsReady file read → has_overlap (stack ∷ segments file) ≡ false → needs_too_much (segments file) ≡ true → image_of file ≡ Err TooMuchMemory
unfolding memory_fault
refused_too_much file read ready apart much = ready_image file read ready ∙ rw (apart, much) refl

pub refused_entry : (file : List ℕ) (read : List ProgramHeader) → IsReady file read → has_overlap (stack ∷ segments file) ≡ false → needs_too_much (segments file) ≡ false → is_code file (entry file) ≡ false → image_of file ≡ Err EntryOutside
unfolding memory_fault
refused_entry file read ready apart little outside = ready_image file read ready ∙ rw (apart, little, outside) refl

pub accepted_image : (file : List ℕ) (read : List ProgramHeader) → IsReady file read → has_overlap (stack ∷ segments file) ≡ false → needs_too_much (segments file) ≡ false → is_code file (entry file) ≡ true → image_of file ≡ Ok file
unfolding memory_fault
accepted_image file read ready apart little inside = ready_image file read ready ∙ rw (apart, little, inside) refl

-- the segments read and sorted, with their regions
pub record IsLaid (file : List ℕ) (read ys : List ProgramHeader) (rs : List Region) : Type 0 where
  pub ready : IsReady file read
  pub moved : IsPermutation (stack ∷ read) ys
  pub rising : IsNonDecreasingBy (λ h. h.address) ys
  pub regions_are : rs ≡ map region ys

low_of : (len : ℕ) (hs : List ProgramHeader) → All (IsSound len) hs → All IsLow hs
low_of len hs sound k d lt = (sound k d lt).low

pub read_low : (file : List ℕ) (read : List ProgramHeader) → IsReady file read → All IsLow read
read_low file read ready =
    subst (λ (hs : List ProgramHeader). All IsLow hs) (sym ready.segments_are) (low_of (length file) (segments file) (sound_segments (length file) file ready.of_segments))

moved_from : (file : List ℕ) (read ys : List ProgramHeader) → IsReady file read → IsPermutation (stack ∷ read) ys → IsPermutation (stack ∷ segments file) ys
moved_from file read ys ready moved = subst (λ (hs : List ProgramHeader). IsPermutation (stack ∷ hs) ys) ready.segments_are moved

pub sorted_low : (file : List ℕ) (read ys : List ProgramHeader) → IsReady file read → IsPermutation (stack ∷ read) ys → All IsLow ys
sorted_low file read ys ready moved =
    let all = stack ∷ segments file in
    low_of (length file) ys (All-permutation (IsSound (length file)) all ys (moved_from file read ys ready moved) (sound_all (length file) file ready.of_segments))

pub touched_refused : (file : List ℕ) (read ys : List ProgramHeader) (rs : List Region) → IsLaid file read ys rs → IsTouched rs → image_of file ≡ Err Overlap
touched_refused file read ys rs laid touched =
    let touches = subst IsTouched laid.regions_are touched in
    refused_overlap file read laid.ready (overlapping file ys laid.ready.of_segments (moved_from file read ys laid.ready laid.moved) laid.rising touches)

pub placed_apart : (file : List ℕ) (read ys : List ProgramHeader) (rs : List Region) → IsLaid file read ys rs → AreApart rs → IsInPlace file ys
placed_apart file read ys rs laid apart =
    in_place file ys laid.ready.of_segments (moved_from file read ys laid.ready laid.moved) (subst AreApart laid.regions_are apart)

needs_from : (file : List ℕ) (read : List ProgramHeader) (much : Bool) → IsReady file read → needs_too_much read ≡ much → needs_too_much (segments file) ≡ much
needs_from file read much ready h = subst (λ (hs : List ProgramHeader). needs_too_much hs ≡ much) ready.segments_are h

pub too_much_refused : (file : List ℕ) (read ys : List ProgramHeader) (rs : List Region) → IsLaid file read ys rs → AreApart rs → needs_too_much read ≡ true → image_of file ≡ Err TooMuchMemory
too_much_refused file read ys rs laid apart much =
    refused_too_much file read laid.ready (placed_apart file read ys rs laid apart).apart (needs_from file read true laid.ready much)

-- the regions are the file's
pub regions_placed : (file : List ℕ) (read ys : List ProgramHeader) (rs : List Region) → IsLaid file read ys rs → AreApart rs → rs ≡ regions_of file
unfolding regions_of
regions_placed file read ys rs laid apart = laid.regions_are ∙ ap (map region) (placed_apart file read ys rs laid apart).are

entry_from : (file : List ℕ) (rs : List Region) (start : ℕ) (code : Bool) → rs ≡ regions_of file → start ≡ entry file → (eqb (start % 4) 0 && is_code_in rs start) ≡ code → is_code file (entry file) ≡ code
entry_from file rs start code r s h = rw (← s, ← r) h

pub entry_refused : (file : List ℕ) (read ys : List ProgramHeader) (rs : List Region) (start : ℕ) → IsLaid file read ys rs → AreApart rs → needs_too_much read ≡ false → start ≡ entry file → (eqb (start % 4) 0 && is_code_in rs start) ≡ false → image_of file ≡ Err EntryOutside
entry_refused file read ys rs start laid apart little is outside =
    refused_entry file read laid.ready (placed_apart file read ys rs laid apart).apart (needs_from file read false laid.ready little)
    (entry_from file rs start false (regions_placed file read ys rs laid apart) is outside)

pub laid_accepted : (file : List ℕ) (read ys : List ProgramHeader) (rs : List Region) (start : ℕ) → IsLaid file read ys rs → AreApart rs → needs_too_much read ≡ false → start ≡ entry file → (eqb (start % 4) 0 && is_code_in rs start) ≡ true → image_of file ≡ Ok file
laid_accepted file read ys rs start laid apart little is inside =
    accepted_image file read laid.ready (placed_apart file read ys rs laid apart).apart (needs_from file read false laid.ready little)
    (entry_from file rs start true (regions_placed file read ys rs laid apart) is inside)

-- what numbering needs
blocks_all : (rs : List Region) (low : ℕ) → RisesFrom low rs → All IsBlocks rs
blocks_all rs low up k d lt = blocks_at rs low k d up lt

pub laid_blocks : (file : List ℕ) (read ys : List ProgramHeader) (rs : List Region) → IsLaid file read ys rs → AreApart rs → All IsBlocks rs
laid_blocks file read ys rs laid apart =
    let rises = subst (RisesFrom 0) (sym laid.regions_are) (placed_apart file read ys rs laid apart).rises in
    blocks_all rs 0 rises

pub laid_few : (file : List ℕ) (read ys : List ProgramHeader) (rs : List Region) → IsLaid file read ys rs → needs_too_much read ≡ false → granule_count rs < 2 ^ 32
laid_few file read ys rs laid little =
    let few = few_of read ys laid.moved little in
    omega (arith, few, ap granule_count laid.regions_are)

-- what is kept
pub laid_kept : (file : List ℕ) (read ys : List ProgramHeader) (rs : List Region) (start : ℕ) (firsts : List ℕ) → IsLaid file read ys rs → AreApart rs → needs_too_much read ≡ false → start ≡ entry file → (eqb (start % 4) 0 && is_code_in rs start) ≡ true → FirstGranules rs firsts → IsAccepted file start ys rs firsts
laid_kept file read ys rs start firsts laid apart little is inside numbered =
    let are = regions_placed file read ys rs laid apart in
    record {
      accepted = laid_accepted file read ys rs start laid apart little is inside;
      start_is = is;
      segments_are = (placed_apart file read ys rs laid apart).are;
      regions_are = are;
      firsts_are = subst (λ (r : List Region). FirstGranules r firsts) are numbered;
      few = omega (arith, laid.ready.few, ap length laid.regions_are, length_regions ys, length_permutation (stack ∷ read) ys laid.moved);
    }

-- an earlier fault is the file's
pub refused_header : (file : List ℕ) (fault : ElfFault) → Some fault ≡ header_fault file → image_of file ≡ Err fault
unfolding image_of
refused_header file fault h = rw (← h) refl

pub refused_segments : (file : List ℕ) (read : List ProgramHeader) (fault : ElfFault) → None ≡ header_fault file → read ≡ segments file → Some fault ≡ segment_fault (length file) read → image_of file ≡ Err fault
unfolding image_of
refused_segments file read fault none is h = rw (← none, ← is, ← h) refl

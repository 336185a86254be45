-- What an image's fields say of its file.
use Rattle.std.proofs.Common.{◌≡◌, ℕ, zero, suc, ◌+◌, ◌-◌, ◌*◌, ◌/◌, ◌%◌, ◌^◌, ◌<◌, ◌≤◌, Bool, true, false, ltb, eqb, not, List, [], ◌∷◌, length, get_or, map, take, Some, None, refl, sym, ap, ◌∙◌, subst, inl, inr, ◌⊎◌, if◌then◌else◌, add-zero, arith}
use Rattle.std.proofs.lemmas.Bool.{cases_Bool, cases_eq, eq-eqb, ne_eqb, lt-ltb, le-ltb}
use Rattle.std.proofs.lemmas.Bool.Decides.{nat_tests}
use Rattle.std.proofs.lemmas.List.{get_or-map, get_or_default}
use Rattle.std.proofs.lemmas.List.Elements.{All-head, All-tail}
use Rattle.std.proofs.lemmas.List.Sums.{position_or_len_is}
use Rattle.std.specs.List.{list_any, All, position, position_or_len}
use Rattle.elf_image.specs.declared.header.ProgramHeader.{ProgramHeader}
use Rattle.elf_image.specs.declared.region.Region.{Region}
use Rattle.elf_image.specs.Bytes.{word_of, long_of}
use Rattle.elf_image.specs.Headers.{region, gives_byte, byte_of, IsSound}
use Rattle.elf_image.specs.Regions.{contains, block, granule_count, IsBlocks, RisesFrom, IsAt, IsHome, FirstGranules}
use Rattle.elf_image.specs.File.{segments_of, regions_of, entry, byte_in, byte_at, region_number, word_at, constant_word, initial_word, granule_of, granule_address}
use Rattle.elf_image.specs.Accepted.{IsAccepted}
use Rattle.elf_image.proofs.Order.{blocks_of, span_of}
use Rattle.elf_image.proofs.Rising.{at_least, blocks_at, bounds_of, contains-above, contains-true, any_at, any_none, code_at, code_none, granule_none, granule_at, granule_start-at, home_high, later_start, own_block, numbered as numbered_below}
use Rattle.elf_image.proofs.Accepting.{IsOrderly, orderly}
use Rattle.elf_image.proofs.Loaded.{length_regions}

-- the fields of an image of this file
pub record IsKept (file bytes : List ℕ) (start : ℕ) (hs : List ProgramHeader) (rs : List Region) (firsts : List ℕ) : Type 0 where
  pub bytes_are : bytes ≡ file
  pub start_is : start ≡ entry file
  pub segments_are : hs ≡ segments_of file
  pub regions_are : rs ≡ regions_of file
  pub firsts_are : FirstGranules (regions_of file) firsts
  pub few : length rs ≤ 2 ^ 16
  pub order : IsOrderly file

pub kept : (file bytes : List ℕ) (start : ℕ) (hs : List ProgramHeader) (rs : List Region) (firsts : List ℕ) → bytes ≡ file → IsAccepted bytes start hs rs firsts → IsKept file bytes start hs rs firsts
kept file bytes start hs rs firsts e a =
    let here = subst (λ (f : List ℕ). IsAccepted f start hs rs firsts) e a in
    record {
      bytes_are = e;
      start_is = here.start_is;
      segments_are = here.segments_are;
      regions_are = here.regions_are;
      firsts_are = here.firsts_are;
      few = here.few;
      order = orderly file here.accepted;
    }

-- no segment's part of the file reaches below its region or above it
byte_below : (file : List ℕ) (hs : List ProgramHeader) (low a : ℕ) → RisesFrom low (map region hs) → a < low → byte_in file hs a ≡ 0
byte_below file [] low a up lt = refl
byte_below file (h ∷ hs) low a up lt =
    let span = span_of h in
    let none : gives_byte h a ≡ false = grind (arith, nat_tests, span.start, up.0) in
    rw none (byte_below file hs (region h).end a up.2 (omega (arith, up.0, up.1.rises)))

byte_first : (file : List ℕ) (h : ProgramHeader) (rest a : ℕ) → rest ≡ 0 → (if gives_byte h a then byte_of file h a else rest) ≡ byte_of file h a
unfolding byte_of
byte_first file h rest a e =
    elim (cases_Bool (gives_byte h a)) [
      | inl gives ↦ rw gives refl
      | inr none ↦ rw none e
    ]

pub byte_in-at : (file : List ℕ) (len : ℕ) (hs : List ProgramHeader) (low k a : ℕ) (d : ProgramHeader) → All (IsSound len) hs → RisesFrom low (map region hs) → k < length hs → contains (region (get_or hs k d)) a ≡ true → byte_in file hs a ≡ byte_of file (get_or hs k d) a
byte_in-at file len [] low k a d sound up lt here = absurd (omega arith)
byte_in-at file len (h ∷ hs) low zero a d sound up lt here =
    let high = (bounds_of (region h) a here).1 in
    byte_first file h (byte_in file hs a) a (byte_below file hs (region h).end a up.2 high)
byte_in-at file len (h ∷ hs) low (suc k) a d sound up lt here =
    let own = All-head (IsSound len) h hs sound in
    let span = span_of h in
    let from = (bounds_of (region (get_or hs k d)) a here).0 in
    let place = get_or-map region hs k d (region d) (omega arith) in
    let least = at_least (map region hs) (region h).end k (region d) up.2 (omega (arith, length_regions hs)) in
    let above : (region h).end ≤ a = omega (arith, ap (λ (r : Region). r.start) place, least, from) in
    let none : gives_byte h a ≡ false = grind (arith, nat_tests, span.end', own.sizes, above) in
    rw none (byte_in-at file len hs (region h).end k a d (All-tail (IsSound len) h hs sound) up.2 (omega arith) here)

-- the segment of a region
pub count_same : (file : List ℕ) → length (segments_of file) ≡ length (regions_of file)
unfolding regions_of
count_same file = sym (length_regions (segments_of file))

region_same : (file : List ℕ) (k : ℕ) (d : ProgramHeader) → k < length (segments_of file) → get_or (regions_of file) k (region d) ≡ region (get_or (segments_of file) k d)
unfolding regions_of
region_same file k d lt = get_or-map region (segments_of file) k d (region d) lt

pub low_end : (file : List ℕ) (k : ℕ) (d : Region) → IsOrderly file → k < length (regions_of file) → (get_or (regions_of file) k d).end ≤ 2 ^ 40
low_end file k d o lt =
    let inside : k < length (segments_of file) = omega (arith, count_same file) in
    let h : ProgramHeader = record { kind = 0; flags = 0; offset = 0; address = 0; file_size = 0; memory_size = 0 } in
    let same = ap (λ (r : Region). r.end) (get_or_default (regions_of file) k d (region h) lt ∙ region_same file k h inside) in
    let span = span_of (get_or (segments_of file) k h) in
    omega (arith, same, span.end', (o.sound k h inside).low)

pub low_address : (file : List ℕ) (a k : ℕ) → IsOrderly file → IsAt (regions_of file) a k → a < 2 ^ 40
low_address file a k o at =
    let d : Region = record { start = 0; end = 0; writable = false; executable = false } in
    omega (arith, low_end file k d o at.in_range, (bounds_of (get_or (regions_of file) k d) a (at.here d)).1)

-- bytes near an address in its region
pub contains_near : (r : Region) (a i n : ℕ) → IsBlocks r → contains r a ≡ true → a % n ≡ 0 → i < n → (n ≡ 4) ⊎ (n ≡ 8) → contains r (a + i) ≡ true
contains_near r a i n b here words lt cases =
    let (low, high) = bounds_of r a here in
    elim cases [
      | inl four ↦
          let w : a % 4 ≡ 0 = subst (λ (m : ℕ). a % m ≡ 0) four words in
          contains-true r (a + i) (omega arith) (omega (arith, b.start_is, b.end_is))
      | inr eight ↦
          let w : a % 8 ≡ 0 = subst (λ (m : ℕ). a % m ≡ 0) eight words in
          contains-true r (a + i) (omega arith) (omega (arith, b.start_is, b.end_is))
    ]

-- each byte near an address is its segment's
byte_near : (file : List ℕ) (a k i n : ℕ) (h : ProgramHeader) → IsOrderly file → IsAt (regions_of file) a k → h ≡ get_or (segments_of file) k h → a % n ≡ 0 → i < n → (n ≡ 4) ⊎ (n ≡ 8) → byte_at file (a + i) ≡ byte_of file h (a + i)
unfolding byte_at regions_of
byte_near file a k i n h o at is words lt cases =
    let inside : k < length (segments_of file) = omega (arith, count_same file, at.in_range) in
    let place = region_same file k h inside in
    let here : contains (region (get_or (segments_of file) k h)) a ≡ true = subst (λ (r : Region). contains r a ≡ true) place (at.here (region h)) in
    let near = contains_near (region (get_or (segments_of file) k h)) a i n (blocks_of (length file) (get_or (segments_of file) k h) (o.sound k h inside)) here words lt cases in
    let found = byte_in-at file (length file) (segments_of file) 0 k (a + i) h o.sound o.rises inside near in
    found ∙ ap (λ (t : ProgramHeader). byte_of file t (a + i)) (sym is)

word_same : (f g : ℕ → ℕ) (a : ℕ) → f (a + 0) ≡ g (a + 0) → f (a + 1) ≡ g (a + 1) → f (a + 2) ≡ g (a + 2) → f (a + 3) ≡ g (a + 3) → word_of f a ≡ word_of g a
unfolding word_of
word_same f g a zero' one two three =
    let first : f a ≡ g a = rw add-zero at zero' in
    cc

long_same : (f g : ℕ → ℕ) (a : ℕ) → word_of f a ≡ word_of g a → word_of f (a + 4) ≡ word_of g (a + 4) → long_of f a ≡ long_of g a
unfolding long_of
long_same f g a low high = cc

pub word_near : (file : List ℕ) (a k : ℕ) (h : ProgramHeader) → IsOrderly file → IsAt (regions_of file) a k → h ≡ get_or (segments_of file) k h → a % 4 ≡ 0 → word_of (byte_at file) a ≡ word_of (byte_of file h) a
word_near file a k h o at is words =
    let near : (i : ℕ) → i < 4 → byte_at file (a + i) ≡ byte_of file h (a + i) = λ i lt. byte_near file a k i 4 h o at is words lt (inl refl) in
    word_same (byte_at file) (byte_of file h) a (near 0 (omega arith)) (near 1 (omega arith)) (near 2 (omega arith)) (near 3 (omega arith))

pub long_near : (file : List ℕ) (a k : ℕ) (h : ProgramHeader) → IsOrderly file → IsAt (regions_of file) a k → h ≡ get_or (segments_of file) k h → a % 8 ≡ 0 → long_of (byte_at file) a ≡ long_of (byte_of file h) a
long_near file a k h o at is words =
    let near : (i : ℕ) → i < 8 → byte_at file (a + i) ≡ byte_of file h (a + i) = λ i lt. byte_near file a k i 8 h o at is words lt (inr refl) in
    let far : (i : ℕ) → i < 4 → byte_at file (a + 4 + i) ≡ byte_of file h (a + 4 + i) =
    λ i lt. subst (λ (b : ℕ). byte_at file b ≡ byte_of file h b) (omega arith) (near (4 + i) (omega arith)) in
    long_same (byte_at file) (byte_of file h) a
    (word_same (byte_at file) (byte_of file h) a (near 0 (omega arith)) (near 1 (omega arith)) (near 2 (omega arith)) (near 3 (omega arith)))
    (word_same (byte_at file) (byte_of file h) (a + 4) (far 0 (omega arith)) (far 1 (omega arith)) (far 2 (omega arith)) (far 3 (omega arith)))

-- fetching
pub fetch_some : (file : List ℕ) (pc k w : ℕ) (r : Region) (h : ProgramHeader) → IsOrderly file → IsAt (regions_of file) pc k → pc % 4 ≡ 0 → r ≡ get_or (regions_of file) k r → r.executable ≡ true → h ≡ get_or (segments_of file) k h → w ≡ word_of (byte_of file h) pc → Some w ≡ word_at file pc
unfolding word_at
fetch_some file pc k w r h o at words is code own read =
    let found = code_at (regions_of file) 0 k pc r o.rises at.in_range (at.here r) words ∙ ap (λ (t : Region). t.executable) (sym is) ∙ code in
    let four : eqb (pc % 4) 0 ≡ true = eq-eqb (pc % 4) 0 words in
    let same = word_near file pc k h o at own words in
    rw (four, found) (ap Some (read ∙ sym same))

pub fetch_misaligned : (file : List ℕ) (pc : ℕ) → (pc % 4 ≡ 0 → ⊥) → None ≡ word_at file pc
unfolding word_at
fetch_misaligned file pc odd = rw (ne_eqb (pc % 4) 0 odd) refl

pub fetch_data : (file : List ℕ) (pc k : ℕ) (r : Region) → IsOrderly file → IsAt (regions_of file) pc k → pc % 4 ≡ 0 → r ≡ get_or (regions_of file) k r → r.executable ≡ false → None ≡ word_at file pc
unfolding word_at
fetch_data file pc k r o at words is code =
    let found = code_at (regions_of file) 0 k pc r o.rises at.in_range (at.here r) words ∙ ap (λ (t : Region). t.executable) (sym is) ∙ code in
    let four : eqb (pc % 4) 0 ≡ true = eq-eqb (pc % 4) 0 words in
    rw (four, found) refl

pub fetch_outside : (file : List ℕ) (pc : ℕ) → RisesFrom 0 (regions_of file) → list_any (λ r. contains r pc) (regions_of file) ≡ false → None ≡ word_at file pc
unfolding word_at
fetch_outside file pc up none =
    elim (cases_eq (pc % 4) 0) [
      | inl words ↦
          let found = code_none (regions_of file) 0 pc up words none in
          let four : eqb (pc % 4) 0 ≡ true = eq-eqb (pc % 4) 0 words in
          rw (four, found) refl
      | inr odd ↦ rw (ne_eqb (pc % 4) 0 odd) refl
    ]

-- the number of a region
position_found : (rs : List Region) (a k : ℕ) → RisesFrom 0 rs → IsAt rs a k → position_or_len (λ r. contains r a) rs ≡ k
position_found rs a k up at =
    let d : Region = record { start = 0; end = 0; writable = false; executable = false } in
    position_or_len_is (λ r. contains r a) rs k d (omega (arith, at.in_range))
    (λ i lt. contains-above (get_or rs i d) a
    (omega (arith, later_start rs 0 i k d up lt at.in_range, (bounds_of (get_or rs k d) a (at.here d)).0)))
    (λ lt. at.here d)

pub number_some : (file : List ℕ) (a k : ℕ) → RisesFrom 0 (regions_of file) → IsAt (regions_of file) a k → Some k ≡ region_number file a
number_some file a k up at =
    let found = position_found (regions_of file) a k up at in
    let within : ltb k (length (regions_of file)) ≡ true = lt-ltb k (length (regions_of file)) at.in_range in
    rw (found, within) refl

all_false : (p : Region → Bool) (rs : List Region) → list_any p rs ≡ false → (k : ℕ) (d : Region) → k < length rs → p (get_or rs k d) ≡ false
all_false p [] none k d lt = absurd (omega arith)
all_false p (r ∷ rs) none zero d lt = grind (arith, nat_tests)
all_false p (r ∷ rs) none (suc k) d lt =
    let rest : list_any p rs ≡ false = grind (arith, nat_tests) in
    all_false p rs rest k d (omega arith)

position_none : (p : Region → Bool) (rs : List Region) → list_any p rs ≡ false → None ≡ position p rs
position_none p rs none =
    let d : Region = record { start = 0; end = 0; writable = false; executable = false } in
    let end' = position_or_len_is p rs (length rs) d (omega arith) (λ k lt. all_false p rs none k d lt) (λ lt. absurd (omega arith)) in
    let past : ltb (length rs) (length rs) ≡ false = le-ltb (length rs) (length rs) (omega arith) in
    rw (end', past) refl

pub number_none : (file : List ℕ) (a : ℕ) → list_any (λ r. contains r a) (regions_of file) ≡ false → None ≡ region_number file a
number_none file a none = position_none (λ r. contains r a) (regions_of file) none

-- the granule of an address
pub granule_some : (file : List ℕ) (a k f : ℕ) (r : Region) (firsts : List ℕ) → IsOrderly file → IsAt (regions_of file) a k → FirstGranules (regions_of file) firsts → r ≡ get_or (regions_of file) k r → r.writable ≡ true → f ≡ get_or firsts k f → Some (f + (a - r.start) / 8) ≡ granule_of file a
granule_some file a k f r firsts o at numbered is writable first =
    let found = granule_at (regions_of file) 0 k a r o.rises at.in_range (at.here r) in
    let w : (get_or (regions_of file) k r).writable ≡ true = ap (λ (t : Region). t.writable) (sym is) ∙ writable in
    let count = first ∙ get_or_default firsts k f 0 (omega (arith, numbered.count, at.in_range)) ∙ numbered.at k (omega (arith, at.in_range)) in
    let start = ap (λ (t : Region). t.start) is in
    let sum : f + (a - r.start) / 8 ≡ granule_count (take k (regions_of file)) + (a - (get_or (regions_of file) k r).start) / 8 = cc (count, start) in
    ap Some sum ∙ sym (found ∙ rw w refl)

pub granule_fits : (file : List ℕ) (a k f : ℕ) (r : Region) (firsts : List ℕ) → IsOrderly file → IsAt (regions_of file) a k → FirstGranules (regions_of file) firsts → r ≡ get_or (regions_of file) k r → r.writable ≡ true → f ≡ get_or firsts k f → f + (a - r.start) / 8 < 2 ^ 32
granule_fits file a k f r firsts o at numbered is writable first =
    let here = granule_some file a k f r firsts o at numbered is writable first in
    let own = numbered_below (regions_of file) 0 a (f + (a - r.start) / 8) o.rises (sym here) in
    omega (arith, own.below, o.few)

pub granule_constant : (file : List ℕ) (a k : ℕ) (r : Region) → IsOrderly file → IsAt (regions_of file) a k → r ≡ get_or (regions_of file) k r → r.writable ≡ false → None ≡ granule_of file a
granule_constant file a k r o at is constant =
    let found = granule_at (regions_of file) 0 k a r o.rises at.in_range (at.here r) in
    let w : (get_or (regions_of file) k r).writable ≡ false = ap (λ (t : Region). t.writable) (sym is) ∙ constant in
    sym (found ∙ rw w refl)

pub granule_outside : (file : List ℕ) (a : ℕ) → list_any (λ r. contains r a) (regions_of file) ≡ false → None ≡ granule_of file a
granule_outside file a none = sym (granule_none (regions_of file) a none)

-- a granule begins in its region
pub record IsGranuleAt (file : List ℕ) (g k : ℕ) : Type 0 where
  pub at : IsAt (regions_of file) (granule_address file g) k
  pub aligned : granule_address file g % 8 ≡ 0

pub granule_place : (file : List ℕ) (g k : ℕ) → IsOrderly file → IsHome (regions_of file) g k → IsGranuleAt file g k
granule_place file g k o home =
    let rs = regions_of file in
    let e : Region = record { start = 0; end = 0; writable = false; executable = false } in
    let t = get_or rs k e in
    let n = g - granule_count (take k rs) in
    let high = home_high rs g k e home in
    let own = own_block t n (blocks_at rs 0 k e o.rises home.in_range) (omega (arith, home.low, high)) in
    let value = granule_start-at rs k g e home.in_range home.low high in
    record {
      at = record {
        in_range = home.in_range;
        here = λ d. rw (value, get_or_default rs k d e home.in_range) own.here;
      };
      aligned = rw value (omega (arith, own.start));
    }

pub address_is : (file : List ℕ) (g k f : ℕ) (r : Region) (firsts : List ℕ) → FirstGranules (regions_of file) firsts → IsHome (regions_of file) g k → r ≡ get_or (regions_of file) k r → f ≡ get_or firsts k f → r.start + 8 * (g - f) ≡ granule_address file g
address_is file g k f r firsts numbered home is first =
    let rs = regions_of file in
    let count : f ≡ granule_count (take k rs) = first ∙ get_or_default firsts k f 0 (omega (arith, numbered.count, home.in_range)) ∙ numbered.at k (omega (arith, home.in_range)) in
    let value = granule_start-at rs k g r home.in_range home.low (home_high rs g k r home) in
    cc (count, ap (λ (s : Region). s.start) is, value)

pub initial_is : (file : List ℕ) (g a : ℕ) → a ≡ granule_address file g → long_of (byte_at file) a ≡ initial_word file g
unfolding initial_word
initial_is file g a is = ap (λ (n : ℕ). long_of (byte_at file) n) is

-- words of regions that can't be written
pub block_at : (file : List ℕ) (a k : ℕ) → IsOrderly file → IsAt (regions_of file) a k → IsAt (regions_of file) (block a) k
block_at file a k o at = record {
  in_range = at.in_range;
  here = λ d.
      let b = blocks_at (regions_of file) 0 k d o.rises at.in_range in
      let (low, high) = bounds_of (get_or (regions_of file) k d) a (at.here d) in
      contains-true (get_or (regions_of file) k d) (block a) (omega (arith, b.start_is)) (omega arith);
}

pub constant_some : (file : List ℕ) (a k w : ℕ) (r : Region) → IsOrderly file → IsAt (regions_of file) a k → r ≡ get_or (regions_of file) k r → r.writable ≡ false → w ≡ long_of (byte_at file) (block a) → Some w ≡ constant_word file a
unfolding constant_word
constant_some file a k w r o at is constant read =
    let found = any_at (λ t. not t.writable) (regions_of file) 0 k a r o.rises at.in_range (at.here r) ∙ ap (λ (t : Region). not t.writable) (sym is) ∙ ap not constant in
    rw found (ap Some read)

pub constant_writable : (file : List ℕ) (a k : ℕ) (r : Region) → IsOrderly file → IsAt (regions_of file) a k → r ≡ get_or (regions_of file) k r → r.writable ≡ true → None ≡ constant_word file a
unfolding constant_word
constant_writable file a k r o at is writable =
    let found = any_at (λ t. not t.writable) (regions_of file) 0 k a r o.rises at.in_range (at.here r) ∙ ap (λ (t : Region). not t.writable) (sym is) ∙ ap not writable in
    rw found refl

pub constant_outside : (file : List ℕ) (a : ℕ) → list_any (λ r. contains r a) (regions_of file) ≡ false → None ≡ constant_word file a
unfolding constant_word
constant_outside file a none = rw (any_none (λ t. not t.writable) (regions_of file) a none) refl

-- an element of a kept list is the file's
pub segment_is : (file : List ℕ) (hs : List ProgramHeader) (k : ℕ) (h : ProgramHeader) → hs ≡ segments_of file → h ≡ get_or hs k h → h ≡ get_or (segments_of file) k h
segment_is file hs k h are is = is ∙ ap (λ (l : List ProgramHeader). get_or l k h) are

pub region_is : (file : List ℕ) (rs : List Region) (k : ℕ) (r : Region) → rs ≡ regions_of file → r ≡ get_or rs k r → r ≡ get_or (regions_of file) k r
region_is file rs k r are is = is ∙ ap (λ (l : List Region). get_or l k r) are

pub segment_sound : (file bytes : List ℕ) (start : ℕ) (hs : List ProgramHeader) (rs : List Region) (firsts : List ℕ) (k : ℕ) (h : ProgramHeader) → IsKept file bytes start hs rs firsts → k < length (regions_of file) → h ≡ get_or hs k h → IsSound (length bytes) h
segment_sound file bytes start hs rs firsts k h kept lt is =
    let own = kept.order.sound k h (omega (arith, count_same file)) in
    let same = segment_is file hs k h kept.segments_are is in
    subst (λ (b : List ℕ). IsSound (length b) h) (sym kept.bytes_are) (subst (IsSound (length file)) (sym same) own)

pub home_from : (file : List ℕ) (rs : List Region) (g k : ℕ) → rs ≡ regions_of file → IsHome rs g k → IsHome (regions_of file) g k
home_from file rs g k are home = subst (λ (r : List Region). IsHome r g k) are home

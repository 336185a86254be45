-- What holds of regions that rise, of which one has an address.
use Rattle.std.proofs.Common.{◌≡◌, ℕ, zero, suc, ◌+◌, ◌-◌, ◌*◌, ◌/◌, ◌%◌, ◌<◌, ◌≤◌, Bool, true, false, ltb, leb, ◌&&◌, ◌||◌, List, [], ◌∷◌, length, get_or, take, Option, Some, None, is_some, refl, sym, ap, ◌∙◌, subst, inl, inr, zero-add, add-one, if◌then◌else◌, arith}
use Rattle.std.proofs.lemmas.Bool.{cases_lt, cases_Bool, cases_order, leb-true, leb-false}
use Rattle.std.proofs.lemmas.Bool.Decides.{nat_tests}
use Rattle.std.proofs.lemmas.List.Sums.{sum_by-cons, sum_by_more_le, sum_by_more}
use Rattle.std.proofs.lemmas.List.Folds.{list_any_none}
use Rattle.std.proofs.lemmas.List.{get_or_default, take_all}
use Rattle.std.specs.List.{list_any, AllWithin}
use Rattle.std.specs.List.Sorted.{IsNonDecreasingBy}
use Rattle.std.specs.Option.{option_map}
use Rattle.elf_image.specs.declared.region.Region.{Region}
use Rattle.elf_image.specs.Regions.{contains, has_bytes, block, IsBlocks, RisesFrom, is_writable_in, is_code_in, granules_in, granule_count, granule_in, granule_start, IsHome, FirstGranules, IsTouched}

and_none : (w b : Bool) → b ≡ ((w && false) || b)
and_none true b = refl
and_none false b = refl

is_some_choice : (w : Bool) (n : ℕ) → is_some (if w then Some n else None) ≡ ((w && true) || false)
is_some_choice true n = refl
is_some_choice false n = refl

is_some_map : (f : ℕ → ℕ) (o : Option ℕ) → is_some (option_map f o) ≡ is_some o
is_some_map f None = refl
is_some_map f (Some n) = refl

pub contains-true : (r : Region) (a : ℕ) → r.start ≤ a → a < r.end → contains r a ≡ true
contains-true r a low high = grind (arith, nat_tests)

pub contains-below : (r : Region) (a : ℕ) → a < r.start → contains r a ≡ false
contains-below r a h = grind (arith, nat_tests)

pub contains-above : (r : Region) (a : ℕ) → r.end ≤ a → contains r a ≡ false
contains-above r a h = grind (arith, nat_tests)

-- what `contains` says
pub bounds_of : (r : Region) (a : ℕ) → contains r a ≡ true → (r.start ≤ a) × (a < r.end)
bounds_of r a h = (grind (arith, nat_tests), grind (arith, nat_tests))

-- no region begins below the first's lower bound
pub at_least : (rs : List Region) (low k : ℕ) (d : Region) → RisesFrom low rs → k < length rs → low ≤ (get_or rs k d).start
at_least [] low k d up lt = absurd (omega arith)
at_least (r ∷ rs) low zero d up lt = up.0
at_least (r ∷ rs) low (suc k) d up lt =
    let rest = at_least rs r.end k d up.2 (omega arith) in omega (arith, up.0, up.1.rises, rest)

pub any_below : (p : Region → Bool) (rs : List Region) (low a : ℕ) → RisesFrom low rs → a < low → list_any (λ r. p r && contains r a) rs ≡ false
any_below p [] low a up h = refl
any_below p (r ∷ rs) low a up h =
    let first = contains-below r a (omega (arith, up.0)) in
    let rest = any_below p rs r.end a up.2 (omega (arith, up.0, up.1.rises)) in
    grind (arith, nat_tests)

-- a test of the region that has an address
pub any_at : (p : Region → Bool) (rs : List Region) (low k a : ℕ) (d : Region) → RisesFrom low rs → k < length rs → contains (get_or rs k d) a ≡ true → list_any (λ r. p r && contains r a) rs ≡ p (get_or rs k d)
any_at p [] low k a d up lt here = absurd (omega arith)
any_at p (r ∷ rs) low zero a d up lt here =
    let high = (bounds_of r a here).1 in
    let rest = any_below p rs r.end a up.2 high in
    grind (arith, nat_tests)
any_at p (r ∷ rs) low (suc k) a d up lt here =
    let least = at_least rs r.end k d up.2 (omega arith) in
    let from = (bounds_of (get_or rs k d) a here).0 in
    let first = contains-above r a (omega (arith, least, from)) in
    let rest = any_at p rs r.end k a d up.2 (omega arith) here in
    grind (arith, nat_tests)

-- of regions that are whole blocks, four bytes at a multiple of four stand in one where the first does
has_bytes-contains : (r : Region) (a : ℕ) → IsBlocks r → a % 4 ≡ 0 → has_bytes r a 4 ≡ contains r a
has_bytes-contains r a b words = grind (arith, nat_tests, b.start_is, b.end_is)

code_as_any : (rs : List Region) (low a : ℕ) → RisesFrom low rs → a % 4 ≡ 0 → is_code_in rs a ≡ list_any (λ r. r.executable && contains r a) rs
code_as_any [] low a up words = refl
code_as_any (r ∷ rs) low a up words =
    let first = has_bytes-contains r a up.1 words in
    let rest = code_as_any rs r.end a up.2 words in
    cc

pub code_at : (rs : List Region) (low k a : ℕ) (d : Region) → RisesFrom low rs → k < length rs → contains (get_or rs k d) a ≡ true → a % 4 ≡ 0 → is_code_in rs a ≡ (get_or rs k d).executable
code_at rs low k a d up lt here words = code_as_any rs low a up words ∙ any_at (λ r. r.executable) rs low k a d up lt here

-- no test finds an address that no region has
pub any_none : (p : Region → Bool) (rs : List Region) (a : ℕ) → list_any (λ r. contains r a) rs ≡ false → list_any (λ r. p r && contains r a) rs ≡ false
any_none p [] a none = refl
any_none p (r ∷ rs) a none =
    let first : contains r a ≡ false = grind (arith, nat_tests) in
    let rest = any_none p rs a (grind (arith, nat_tests)) in
    grind (arith, nat_tests)

pub code_none : (rs : List Region) (low a : ℕ) → RisesFrom low rs → a % 4 ≡ 0 → list_any (λ r. contains r a) rs ≡ false → is_code_in rs a ≡ false
code_none rs low a up words none = code_as_any rs low a up words ∙ any_none (λ r. r.executable) rs a none

-- the first region's granules come first
pub granule_count-cons : (r : Region) (rs : List Region) → granule_count (r ∷ rs) ≡ granules_in r + granule_count rs
granule_count-cons r rs = sum_by-cons granules_in r rs

pub granule_none : (rs : List Region) (a : ℕ) → list_any (λ r. contains r a) rs ≡ false → granule_in rs a ≡ None
granule_none [] a none = refl
granule_none (r ∷ rs) a none =
    let first : contains r a ≡ false = grind (arith, nat_tests) in
    let rest = granule_none rs a (grind (arith, nat_tests)) in
    rw (first, rest) refl

map_choice : (f : ℕ → ℕ) (b : Bool) (x : ℕ) → option_map f (if b then Some x else None) ≡ (if b then Some (f x) else None)
map_choice f true x = refl
map_choice f false x = refl

-- the granule of an address by its region
pub granule_at : (rs : List Region) (low k a : ℕ) (d : Region) → RisesFrom low rs → k < length rs → contains (get_or rs k d) a ≡ true → granule_in rs a ≡ (if (get_or rs k d).writable then Some (granule_count (take k rs) + (a - (get_or rs k d).start) / 8) else None)
granule_at [] low k a d up lt here = absurd (omega arith)
granule_at (r ∷ rs) low zero a d up lt here = rw here (simp zero-add)
granule_at (r ∷ rs) low (suc k) a d up lt here =
    let least = at_least rs r.end k d up.2 (omega arith) in
    let from = (bounds_of (get_or rs k d) a here).0 in
    let first = contains-above r a (omega (arith, least, from)) in
    let rest = granule_at rs r.end k a d up.2 (omega arith) here in
    let w = (get_or rs k d).writable in
    let n = (a - (get_or rs k d).start) / 8 in
    let before = granule_count (take k rs) in
    let sum : granules_in r + (before + n) ≡ granule_count (r ∷ take k rs) + n =
    omega (arith, granule_count-cons r (take k rs)) in
    rw (first, rest) (map_choice (λ g. granules_in r + g) w (before + n) ∙ ap (λ (g : ℕ). if w then Some g else None) sum)

-- the granules before a region's, and its own, are among all
pub granules_within : (rs : List Region) (k : ℕ) (d : Region) → k < length rs → granule_count (take k rs) + granules_in (get_or rs k d) ≤ granule_count rs
granules_within rs k d lt = sum_by_more_le granules_in rs k d lt

-- a granule's address by its region
pub granule_start-at : (rs : List Region) (k g : ℕ) (d : Region) → k < length rs → granule_count (take k rs) ≤ g → g < granule_count (take k rs) + granules_in (get_or rs k d) → granule_start rs g ≡ (get_or rs k d).start + 8 * (g - granule_count (take k rs))
granule_start-at [] k g d lt low high = absurd (omega arith)
granule_start-at (r ∷ rs) zero g d lt low high =
    let own : ltb g (granules_in r) ≡ true = grind (arith, nat_tests, zero-add) in
    let same : g ≡ g - 0 = omega arith in
    rw own (ap (λ (n : ℕ). r.start + 8 * n) same)
granule_start-at (r ∷ rs) (suc k) g d lt low high =
    let count = granule_count-cons r (take k rs) in
    let past : ltb g (granules_in r) ≡ false = grind (arith, nat_tests) in
    let rest = granule_start-at rs k (g - granules_in r) d (omega arith) (omega arith) (omega arith) in
    let sum : (g - granules_in r) - granule_count (take k rs) ≡ g - granule_count (r ∷ take k rs) = omega arith in
    rw past (rest ∙ ap (λ (n : ℕ). (get_or rs k d).start + 8 * n) sum)

-- some region has the granule
pub home_of : (rs : List Region) (g : ℕ) → g < granule_count rs → (k : ℕ) × IsHome rs g k
home_of [] g lt = absurd (omega arith)
home_of (r ∷ rs) g lt =
    let count = granule_count-cons r rs in
    elim (cases_lt g (granules_in r)) [
      | inl own ↦ (zero, record { in_range = omega arith; low = omega arith; high = omega (arith, granule_count-cons r []) })
      | inr past ↦
          let (k, home) = home_of rs (g - granules_in r) (omega arith) in
          let here = granule_count-cons r (take k rs) in
          let next = granule_count-cons r (take (suc k) rs) in
          let high : g - granules_in r < granule_count (take (suc k) rs) = rw add-one at home.high in (
            suc k,
            record {
              in_range = omega (arith, home.in_range);
              low = omega (arith, home.low, here);
              high = rw add-one (omega (arith, high, next));
            },
          )
    ]

pub home_high : (rs : List Region) (g k : ℕ) (d : Region) → IsHome rs g k → g < granule_count (take k rs) + granules_in (get_or rs k d)
home_high rs g k d home = omega (arith, home.high, sum_by_more granules_in rs k d home.in_range)

pub blocks_at : (rs : List Region) (low k : ℕ) (d : Region) → RisesFrom low rs → k < length rs → IsBlocks (get_or rs k d)
blocks_at [] low k d up lt = absurd (omega arith)
blocks_at (r ∷ rs) low zero d up lt = up.1
blocks_at (r ∷ rs) low (suc k) d up lt = blocks_at rs r.end k d up.2 (omega arith)

granules_choice : (w : Bool) (n : ℕ) → 0 < (if w then n / 8 else 0) → 8 * (n / 8) ≡ n → (w ≡ true) × (8 * (if w then n / 8 else 0) ≡ n)
granules_choice true n some whole = (refl, whole)
granules_choice false n some whole = absurd (omega arith)

-- a region with granules is writable, and as large as they are
pub writable_granules : (r : Region) → IsBlocks r → 0 < granules_in r → (r.writable ≡ true) × (8 * granules_in r ≡ r.end - r.start)
writable_granules r b some = granules_choice r.writable (r.end - r.start) some (omega (arith, b.start_is, b.end_is, b.rises))

-- a granule's address is a block of its region
pub record IsOwnBlock (r : Region) (a n : ℕ) : Type 0 where
  pub writable : r.writable ≡ true
  pub here : contains r a ≡ true
  pub number : (a - r.start) / 8 ≡ n
  pub start : block a ≡ a

pub own_block : (r : Region) (n : ℕ) → IsBlocks r → n < granules_in r → IsOwnBlock r (r.start + 8 * n) n
own_block r n b lt =
    let (w, whole) = writable_granules r b (omega arith) in
    record {
      writable = w;
      here = contains-true r (r.start + 8 * n) (omega arith) (omega (arith, whole));
      number = omega arith;
      start = omega (arith, b.start_is);
    }

-- each number below the count is the granule of its address
pub granule_in-start : (rs : List Region) (low g : ℕ) (d : Region) → RisesFrom low rs → g < granule_count rs → granule_in rs (granule_start rs g) ≡ Some g
granule_in-start rs low g d up lt =
    let (k, home) = home_of rs g lt in
    let high = home_high rs g k d home in
    let r = get_or rs k d in
    let before = granule_count (take k rs) in
    let own = own_block r (g - before) (blocks_at rs low k d up home.in_range) (omega (arith, home.low, high)) in
    let at = granule_start-at rs k g d home.in_range home.low high in
    let found = granule_at rs low k (r.start + 8 * (g - before)) d up home.in_range own.here in
    let sum : before + (r.start + 8 * (g - before) - r.start) / 8 ≡ g = omega (arith, own.number, home.low) in
    rw at (found ∙ rw own.writable (ap Some sum))

-- what a granule's number says of its address
pub record IsNumbered (rs : List Region) (a g : ℕ) : Type 0 where
  pub below : g < granule_count rs
  pub start : granule_start rs g ≡ block a

choice_some : (w : Bool) (n g : ℕ) → (if w then Some n else None) ≡ Some g → (w ≡ true) × (n ≡ g)
choice_some true n g h = (refl, cc)
choice_some false n g h = absurd (cc)

numbered_first : (r : Region) (rs : List Region) (a g : ℕ) → IsBlocks r → contains r a ≡ true → (if r.writable then Some ((a - r.start) / 8) else None) ≡ Some g → IsNumbered (r ∷ rs) a g
numbered_first r rs a g b here h =
    let (w, n) = choice_some r.writable ((a - r.start) / 8) g h in
    let (low, high) = bounds_of r a here in
    let count = granule_count-cons r rs in
    let size' : granules_in r ≡ (r.end - r.start) / 8 = rw w refl in
    let own : g < granules_in r = omega (arith, b.start_is, b.end_is, b.rises) in
    let test : ltb g (granules_in r) ≡ true = grind (arith, nat_tests) in
    let at : r.start + 8 * g ≡ block a = omega (arith, b.start_is) in
    record { below = omega arith; start = rw test at }

map_some : (f : ℕ → ℕ) (o : Option ℕ) (g : ℕ) → option_map f o ≡ Some g → (n : ℕ) × (o ≡ Some n) × (f n ≡ g)
map_some f None g h = absurd (cc)
map_some f (Some n) g h = (n, refl, cc)

numbered_later : (r : Region) (rs : List Region) (a g n : ℕ) → IsNumbered rs a n → granules_in r + n ≡ g → IsNumbered (r ∷ rs) a g
numbered_later r rs a g n later sum =
    let count = granule_count-cons r rs in
    let test : ltb g (granules_in r) ≡ false = grind (arith, nat_tests) in
    let rest : g - granules_in r ≡ n = omega arith in
    record { below = omega (arith, later.below); start = rw (test, rest) later.start }

pub numbered : (rs : List Region) (low a g : ℕ) → RisesFrom low rs → granule_in rs a ≡ Some g → IsNumbered rs a g
numbered [] low a g up h = absurd (cc)
numbered (r ∷ rs) low a g up h =
    elim (cases_Bool (contains r a)) [
      | inl here ↦ numbered_first r rs a g up.1 here (rw here at h)
      | inr not_here ↦
          let (n, found, sum) = map_some (λ n. granules_in r + n) (granule_in rs a) g (rw not_here at h) in
          numbered_later r rs a g n (numbered rs r.end a n up.2 found) sum
    ]

-- an address has a granule exactly where it may be written
pub is_some-granule_in : (rs : List Region) (low a : ℕ) → RisesFrom low rs → is_some (granule_in rs a) ≡ is_writable_in rs a
is_some-granule_in [] low a up = refl
is_some-granule_in (r ∷ rs) low a up =
    elim (cases_Bool (contains r a)) [
      | inl here ↦
          let rest = any_below (λ r. r.writable) rs r.end a up.2 (bounds_of r a here).1 in
          rw (here, rest) (is_some_choice r.writable ((a - r.start) / 8))
      | inr not_here ↦
          let rest = is_some-granule_in rs r.end a up.2 in
          rw not_here (is_some_map (λ n. granules_in r + n) (granule_in rs a) ∙ rest ∙ and_none r.writable (is_writable_in rs a))
    ]

-- all addresses of a block have its granule
pub granule_in-block : (rs : List Region) (low a : ℕ) → RisesFrom low rs → granule_in rs (block a) ≡ granule_in rs a
granule_in-block [] low a up = refl
granule_in-block (r ∷ rs) low a up =
    let same : contains r (block a) ≡ contains r a = grind (arith, nat_tests, up.1.start_is, up.1.end_is) in
    let number : contains r a ≡ true → (block a - r.start) / 8 ≡ (a - r.start) / 8 =
    λ here. omega (arith, up.1.start_is, (bounds_of r a here).0) in
    let rest = granule_in-block rs r.end a up.2 in
    elim (cases_Bool (contains r a)) [
      | inl here ↦ rw (same, here, number here) refl
      | inr not_here ↦ rw (same, not_here, rest) refl
    ]

-- no granule begins below the first region
pub granule_start-least : (rs : List Region) (low g : ℕ) → RisesFrom low rs → g < granule_count rs → low ≤ granule_start rs g
granule_start-least [] low g up lt = absurd (omega arith)
granule_start-least (r ∷ rs) low g up lt =
    let count = granule_count-cons r rs in
    elim (cases_lt g (granules_in r)) [
      | inl own ↦
          let test : ltb g (granules_in r) ≡ true = grind (arith, nat_tests) in
          rw test (omega (arith, up.0))
      | inr past ↦
          let test : ltb g (granules_in r) ≡ false = grind (arith, nat_tests) in
          let rest = granule_start-least rs r.end (g - granules_in r) up.2 (omega arith) in
          rw test (omega (arith, up.0, up.1.rises))
    ]

-- granules are numbered by rising address
pub granule_start-rises : (rs : List Region) (low g h : ℕ) → RisesFrom low rs → g < h → h < granule_count rs → granule_start rs g < granule_start rs h
granule_start-rises [] low g h up lt in' = absurd (omega arith)
granule_start-rises (r ∷ rs) low g h up lt in' =
    let count = granule_count-cons r rs in
    elim (cases_lt h (granules_in r)) [
      | inl own ↦
          let first : ltb g (granules_in r) ≡ true = grind (arith, nat_tests) in
          let second : ltb h (granules_in r) ≡ true = grind (arith, nat_tests) in
          rw (first, second) (omega arith)
      | inr past ↦
          let second : ltb h (granules_in r) ≡ false = grind (arith, nat_tests) in
          elim (cases_lt g (granules_in r)) [
            | inl own ↦
                let first : ltb g (granules_in r) ≡ true = grind (arith, nat_tests) in
                let least = granule_start-least rs r.end (h - granules_in r) up.2 (omega arith) in
                let (w, whole) = writable_granules r up.1 (omega arith) in
                rw (first, second) (omega (arith, least, whole, up.1.rises))
            | inr also ↦
                let first : ltb g (granules_in r) ≡ false = grind (arith, nat_tests) in
                let rest = granule_start-rises rs r.end (g - granules_in r) (h - granules_in r) up.2 (omega arith) (omega arith) in
                rw (first, second) rest
          ]
    ]

-- ends rise, and a later region begins above an end
pub ends_rise : (rs : List Region) (low : ℕ) → RisesFrom low rs → IsNonDecreasingBy (λ r. r.end) rs
ends_rise [] low up i j d le lt = absurd (omega arith)
ends_rise (r ∷ rs) low up zero zero d le lt = omega arith
ends_rise (r ∷ rs) low up (suc i) zero d le lt = absurd (omega arith)
ends_rise (r ∷ rs) low up zero (suc j) d le lt =
    let later = at_least rs r.end j d up.2 (omega arith) in
    let own = (blocks_at rs r.end j d up.2 (omega arith)).rises in
    omega (arith, later, own)
ends_rise (r ∷ rs) low up (suc i) (suc j) d le lt = ends_rise rs r.end up.2 i j d (omega arith) (omega arith)

pub later_start : (rs : List Region) (low i j : ℕ) (d : Region) → RisesFrom low rs → i < j → j < length rs → (get_or rs i d).end ≤ (get_or rs j d).start
later_start [] low i j d up lt in' = absurd (omega arith)
later_start (r ∷ rs) low i zero d up lt in' = absurd (omega arith)
later_start (r ∷ rs) low zero (suc j) d up lt in' = at_least rs r.end j d up.2 (omega arith)
later_start (r ∷ rs) low (suc i) (suc j) d up lt in' = later_start rs r.end i j d up.2 (omega arith) (omega arith)

-- regions that end at or below an address or begin above it
pub none_found : (rs : List Region) (low a n : ℕ) → RisesFrom low rs → AllWithin (λ r. leb r.end a ≡ true) rs 0 n → AllWithin (λ r. leb r.end a ≡ false) rs n (length rs) → (n < length rs → (d : Region) → contains (get_or rs n d) a ≡ false) → list_any (λ r. contains r a) rs ≡ false
none_found rs low a n up below above at =
    list_any_none (λ r. contains r a) rs (λ k d lt.
    elim (cases_order k n) [
      | inl here ↦ subst (λ (i : ℕ). contains (get_or rs i d) a ≡ false) (sym here) (at (omega arith) d)
      | inr other ↦ elim other [
        | inl before ↦ contains-above (get_or rs k d) a (leb-true (get_or rs k d).end a (below k d (omega arith) before))
        | inr after ↦
            let high = leb-false (get_or rs n d).end a (above n d (omega arith) (omega arith)) in
            let start = later_start rs low n k d up after lt in
            contains-below (get_or rs k d) a (omega (arith, high, start))
      ]
    ])

-- a fact of an element, at another default
pub not_here : (rs : List Region) (n a : ℕ) (d e : Region) → n < length rs → contains (get_or rs n e) a ≡ false → contains (get_or rs n d) a ≡ false
not_here rs n a d e lt h = subst (λ (r : Region). contains r a ≡ false) (get_or_default rs n e d lt) h

pub touched : (rs : List Region) (n : ℕ) (e : Region) → 1 ≤ n → n < length rs → (get_or rs n e).start < (get_or rs (n - 1) e).end → IsTouched rs
touched rs n e some lt h =
    let next : n - 1 + 1 ≡ n = omega arith in
    record {
      index = n - 1;
      in_range = omega arith;
      below = λ d. rw (next, get_or_default rs n d e lt, get_or_default rs (n - 1) d e (omega arith)) h;
    }

granule_count-take : (rs : List Region) (i j : ℕ) → i ≤ j → granule_count (take i rs) ≤ granule_count (take j rs)
granule_count-take rs zero j le = omega arith
granule_count-take rs (suc i) zero le = absurd (omega arith)
granule_count-take [] (suc i) (suc j) le = omega arith
granule_count-take (r ∷ rs) (suc i) (suc j) le =
    let rest = granule_count-take rs i j (omega arith) in
    omega (arith, rest, granule_count-cons r (take i rs), granule_count-cons r (take j rs))

-- numbers of first granules rise
pub firsts_rise : (rs : List Region) (firsts : List ℕ) → FirstGranules rs firsts → IsNonDecreasingBy (λ n. n) firsts
firsts_rise rs firsts f i j d le lt =
    let low = f.at i (omega (arith, f.count)) in
    let high = f.at j (omega (arith, f.count)) in
    let rise = granule_count-take rs i j le in
    rw (get_or_default firsts i d 0 (omega arith), get_or_default firsts j d 0 lt) (omega (arith, low, high, rise))

-- the last region whose first granule is at or below a number has that granule
pub home_found : (rs : List Region) (firsts : List ℕ) (g n : ℕ) → FirstGranules rs firsts → g < granule_count rs → n ≤ length firsts → AllWithin (λ m. leb m g ≡ true) firsts 0 n → AllWithin (λ m. leb m g ≡ false) firsts n (length firsts) → (1 ≤ n) × IsHome rs g (n - 1)
home_found rs firsts g zero f lt le below above =
    let first = leb-false (get_or firsts 0 0) g (above 0 0 (omega arith) (omega (arith, f.count))) in
    absurd (omega (arith, first, f.at 0 (omega arith)))
home_found rs firsts g (suc n) f lt le below above =
    let some : suc n - 1 ≡ n = omega arith in
    let low = leb-true (get_or firsts n 0) g (below n 0 (omega arith) (omega arith)) in
    elim (cases_lt n (length rs)) [
      | inl within ↦
          let high = leb-false (get_or firsts (suc n) 0) g (above (suc n) 0 (omega arith) (omega (arith, f.count))) in (
            omega arith,
            rw some (record {
              in_range = within;
              low = omega (arith, low, f.at n (omega arith));
              high = rw add-one (omega (arith, high, f.at (suc n) (omega arith)));
            }),
          )
      | inr past ↦
          let all = ap granule_count (take_all n rs past) in
          absurd (omega (arith, low, f.at n (omega (arith, f.count)), all))
    ]

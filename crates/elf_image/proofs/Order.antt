-- Segments by rising address: they rise apart exactly where no two share an address, and in one way only.
use Rattle.std.proofs.Common.{◌≡◌, ℕ, zero, suc, ◌+◌, ◌≤◌, Bool, false, ltb, List, [], ◌∷◌, get_or, map, refl, sym, subst, inl, inr, ◌⊎◌, arith}
use Rattle.std.proofs.lemmas.Bool.{cases_Bool}
use Rattle.std.proofs.lemmas.Bool.Decides.{nat_tests}
use Rattle.std.proofs.lemmas.List.Elements.{All-nil, All-cons, All-head, All-tail}
use Rattle.std.proofs.lemmas.List.Folds.{list_any_none}
use Rattle.std.proofs.lemmas.List.Sorted.{IsPermutation-refl, IsPermutation-sym, IsPermutation-trans, IsPermutation-cons, IsPermutation-swap, All-permutation, Contains-permutation}
use Rattle.std.specs.List.{list_any, All, Contains}
use Rattle.std.specs.List.Sorted.{IsPermutation}
use Rattle.elf_image.specs.declared.header.ProgramHeader.{ProgramHeader}
use Rattle.elf_image.specs.declared.region.Region.{Region}
use Rattle.elf_image.specs.Headers.{region, IsSound}
use Rattle.elf_image.specs.Regions.{block, overlaps, IsBlocks, RisesFrom}
use Rattle.elf_image.specs.File.{placed, by_address, has_overlap}
use Rattle.elf_image.proofs.Pairs.{EachTwo, EachTwo-nil, EachTwo-head, EachTwo-tail, EachTwo-cons}

-- a segment's region, and that it is whole blocks
pub record IsSpan (h : ProgramHeader) (r : Region) : Type 0 where
  pub start : r.start ≡ block h.address
  pub end' : r.end ≡ block (h.address + h.memory_size + 7)

pub span_of : (h : ProgramHeader) → IsSpan h (region h)
unfolding region
span_of h = record { start = refl; end' = refl }

pub blocks_of : (len : ℕ) (h : ProgramHeader) → IsSound len h → IsBlocks (region h)
blocks_of len h s =
    let span = span_of h in
    record {
      rises = omega (arith, s.takes, span.start, span.end');
      start_is = omega (arith, span.start);
      end_is = omega (arith, span.end');
    }

-- two segments share no address
abbrev pub IsApart : ProgramHeader → ProgramHeader → Type 0
IsApart h t = overlaps (region h) (region t) ≡ false

pub apart_below : (h t : ProgramHeader) → (region h).end ≤ (region t).start → IsApart h t
apart_below h t le = grind (arith, nat_tests)

pub apart_above : (h t : ProgramHeader) → (region t).end ≤ (region h).start → IsApart h t
apart_above h t le = grind (arith, nat_tests)

-- the test finds nothing in the list
pub any_false : (p : ProgramHeader → Bool) (hs : List ProgramHeader) → list_any p hs ≡ false → All (λ h. p h ≡ false) hs
any_false p [] none = All-nil (λ h. p h ≡ false)
any_false p (h ∷ hs) none =
    let first : p h ≡ false = grind (arith, nat_tests) in
    let rest : list_any p hs ≡ false = grind (arith, nat_tests) in
    All-cons (λ h. p h ≡ false) h hs first (any_false p hs rest)

apart_sym : (h t : ProgramHeader) → IsApart h t → IsApart t h
apart_sym h t a = grind (arith, nat_tests)

all_sym : (h : ProgramHeader) (hs : List ProgramHeader) → All (λ t. IsApart h t) hs → All (λ t. IsApart t h) hs
all_sym h hs all k d lt = apart_sym h (get_or hs k d) (all k d lt)

pub each_apart : (hs : List ProgramHeader) → has_overlap hs ≡ false → EachTwo IsApart hs
each_apart [] none = EachTwo-nil IsApart
each_apart (h ∷ hs) none =
    let first : list_any (λ t. overlaps (region h) (region t)) hs ≡ false = grind (arith, nat_tests) in
    let rest : has_overlap hs ≡ false = grind (arith, nat_tests) in
    let to = any_false (λ t. overlaps (region h) (region t)) hs first in
    EachTwo-cons IsApart h hs to (all_sym h hs to) (each_apart hs rest)

pub no_overlap : (hs : List ProgramHeader) → EachTwo IsApart hs → has_overlap hs ≡ false
no_overlap [] all = refl
no_overlap (h ∷ hs) all =
    let first = list_any_none (λ t. overlaps (region h) (region t)) hs (EachTwo-head IsApart h hs all) in
    let rest = no_overlap hs (EachTwo-tail IsApart h hs all) in
    rw (first, rest) refl

-- sorting only moves segments
IsPermutation-placed : (h : ProgramHeader) (hs : List ProgramHeader) → IsPermutation (h ∷ hs) (placed h hs)
IsPermutation-placed h [] = IsPermutation-refl (h ∷ [])
IsPermutation-placed h (t ∷ ts) =
    elim (cases_Bool (ltb h.address t.address)) [
      | inl below ↦ rw below (IsPermutation-refl (h ∷ t ∷ ts))
      | inr above ↦
          let exchanged = IsPermutation-swap (h ∷ t ∷ ts) (t ∷ h ∷ ts) 0 1 (omega arith) (omega arith) refl in
          let rest = IsPermutation-cons t (h ∷ ts) (placed h ts) (IsPermutation-placed h ts) in
          rw above (IsPermutation-trans (h ∷ t ∷ ts) (t ∷ h ∷ ts) (t ∷ placed h ts) exchanged rest)
    ]

pub IsPermutation-by_address : (hs : List ProgramHeader) → IsPermutation hs (by_address hs)
IsPermutation-by_address [] = IsPermutation-refl []
IsPermutation-by_address (h ∷ hs) =
    IsPermutation-trans (h ∷ hs) (h ∷ by_address hs) (placed h (by_address hs))
    (IsPermutation-cons h hs (by_address hs) (IsPermutation-by_address hs))
    (IsPermutation-placed h (by_address hs))

-- where no two share an address, the one that begins lower ends before the other
before_other : (len : ℕ) (h t : ProgramHeader) → IsSound len h → IsSound len t → h.address ≤ t.address → IsApart h t → (region h).end ≤ (region t).start
before_other len h t sh st le apart =
    let bh = blocks_of len h sh in
    let bt = blocks_of len t st in
    let ph = span_of h in
    let pt = span_of t in
    let low : (region h).start ≤ (region t).start = omega (arith, ph.start, pt.start) in
    let up = bt.rises in
    grind (arith, nat_tests)

placed_rises : (len : ℕ) (h : ProgramHeader) (hs : List ProgramHeader) (low : ℕ) → IsSound len h → All (IsSound len) hs → low ≤ (region h).start → All (λ t. IsApart h t) hs → RisesFrom low (map region hs) → RisesFrom low (map region (placed h hs))
placed_rises len h [] low sound all least apart up = (least, blocks_of len h sound, tt)
placed_rises len h (t ∷ ts) low sound all least apart up =
    let st = All-head (IsSound len) t ts all in
    let at = All-head (λ t. IsApart h t) t ts apart in
    elim (cases_Bool (ltb h.address t.address)) [
      | inl below ↦
          let order = before_other len h t sound st (grind (arith, nat_tests)) at in
          rw below (least, blocks_of len h sound, (order, up.1, up.2))
      | inr above ↦
          let order = before_other len t h st sound (grind (arith, nat_tests)) (apart_sym h t at) in
          let rest = placed_rises len h ts (region t).end sound (All-tail (IsSound len) t ts all) order (All-tail (λ t. IsApart h t) t ts apart) up.2 in
          rw above (up.0, up.1, rest)
    ]

pub by_address_rises : (len : ℕ) (hs : List ProgramHeader) → All (IsSound len) hs → EachTwo IsApart hs → RisesFrom 0 (map region (by_address hs))
by_address_rises len [] all apart = tt
by_address_rises len (h ∷ hs) all apart =
    let moved = IsPermutation-by_address hs in
    placed_rises len h (by_address hs) 0
    (All-head (IsSound len) h hs all)
    (All-permutation (IsSound len) hs (by_address hs) moved (All-tail (IsSound len) h hs all))
    (omega arith)
    (All-permutation (λ t. IsApart h t) hs (by_address hs) moved (EachTwo-head IsApart h hs apart))
    (by_address_rises len hs (All-tail (IsSound len) h hs all) (EachTwo-tail IsApart h hs apart))

-- a member of a list with a first element
member_cases : (x y : ProgramHeader) (ys : List ProgramHeader) → Contains (y ∷ ys) x → (y ≡ x) ⊎ Contains ys x
member_cases x y ys (zero, lt, is) = inl is
member_cases x y ys (suc k, lt, is) = inr (k, omega arith, is)

member_head : (y : ProgramHeader) (ys : List ProgramHeader) → Contains (y ∷ ys) y
member_head y ys = (zero, omega arith, refl)

member_tail : (x y : ProgramHeader) (ys : List ProgramHeader) → Contains ys x → Contains (y ∷ ys) x
member_tail x y ys (k, lt, is) = (suc k, omega arith, is)

member_start : (hs : List ProgramHeader) (low : ℕ) (x : ProgramHeader) → RisesFrom low (map region hs) → Contains hs x → low ≤ (region x).start
member_start [] low x up (k, lt, is) = absurd (omega arith)
member_start (h ∷ hs) low x up in' =
    elim (member_cases x h hs in') [
      | inl is ↦ subst (λ (t : ProgramHeader). low ≤ (region t).start) is up.0
      | inr later ↦ let rest = member_start hs (region h).end x up.2 later in omega (arith, up.0, up.1.rises, rest)
    ]

-- all of one list are in the other
record AreIn (xs ys : List ProgramHeader) : Type 0 where
  member : (x : ProgramHeader) → Contains xs x → Contains ys x

first_same : (x y : ProgramHeader) (xs ys : List ProgramHeader) (low least : ℕ) → RisesFrom low (map region (x ∷ xs)) → RisesFrom least (map region (y ∷ ys)) → AreIn (x ∷ xs) (y ∷ ys) → AreIn (y ∷ ys) (x ∷ xs) → x ≡ y
first_same x y xs ys low least upx upy to from =
    elim (member_cases x y ys (to.member x (member_head x xs))) [
      | inl is ↦ sym is
      | inr in-ys ↦ elim (member_cases y x xs (from.member y (member_head y ys))) [
        | inl is ↦ is
        | inr in-xs ↦
            let a = member_start ys (region y).end x upy.2 in-ys in
            let b = member_start xs (region x).end y upx.2 in-xs in
            absurd (omega (arith, a, b, upx.1.rises, upy.1.rises))
      ]
    ]

rest_in : (x : ProgramHeader) (xs ys : List ProgramHeader) (low : ℕ) → RisesFrom low (map region (x ∷ xs)) → AreIn (x ∷ xs) (x ∷ ys) → AreIn xs ys
rest_in x xs ys low up all = record {
  member = λ z in-xs.
      elim (member_cases z x ys (all.member z (member_tail z x xs in-xs))) [
        | inl is ↦
            let a = member_start xs (region x).end z up.2 in-xs in
            let b : (region x).end ≤ (region x).start = subst (λ (t : ProgramHeader). (region x).end ≤ (region t).start) (sym is) a in
            absurd (omega (arith, b, up.1.rises))
        | inr later ↦ later
      ];
}

one_order : (xs ys : List ProgramHeader) (low least : ℕ) → RisesFrom low (map region xs) → RisesFrom least (map region ys) → AreIn xs ys → AreIn ys xs → xs ≡ ys
one_order [] [] low least upx upy to from = refl
one_order [] (y ∷ ys) low least upx upy to from = absurd (let (k, lt, is) = from.member y (member_head y ys) in omega arith)
one_order (x ∷ xs) [] low least upx upy to from = absurd (let (k, lt, is) = to.member x (member_head x xs) in omega arith)
one_order (x ∷ xs) (y ∷ ys) low least upx upy to from =
    let same = first_same x y xs ys low least upx upy to from in
    let to' : AreIn (x ∷ xs) (x ∷ ys) = subst (λ (t : ProgramHeader). AreIn (x ∷ xs) (t ∷ ys)) (sym same) to in
    let from' : AreIn (x ∷ ys) (x ∷ xs) = subst (λ (t : ProgramHeader). AreIn (t ∷ ys) (x ∷ xs)) (sym same) from in
    let upy' : RisesFrom least (map region (x ∷ ys)) = subst (λ (t : ProgramHeader). RisesFrom least (map region (t ∷ ys))) (sym same) upy in
    let rest = one_order xs ys (region x).end (region x).end upx.2 upy'.2 (rest_in x xs ys low upx to') (rest_in x ys xs least upy' from') in
    cc

-- the one list of these segments that rises
pub by_address_is : (len : ℕ) (xs ys : List ProgramHeader) → All (IsSound len) xs → EachTwo IsApart xs → IsPermutation xs ys → RisesFrom 0 (map region ys) → ys ≡ by_address xs
by_address_is len xs ys all apart p up =
    let q = IsPermutation-by_address xs in
    let back = IsPermutation-sym xs ys p in
    let home = IsPermutation-sym xs (by_address xs) q in
    one_order ys (by_address xs) 0 0 up (by_address_rises len xs all apart)
    (record { member = λ x m. Contains-permutation xs (by_address xs) x q (Contains-permutation ys xs x back m) })
    (record { member = λ x m. Contains-permutation xs ys x p (Contains-permutation (by_address xs) xs x home m) })

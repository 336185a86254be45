-- Rules frame by frame are rules stack by stack.
use Rattle.std.proofs.Common.{◌≡◌, ℕ, suc, ◌+◌, ◌<◌, ◌≤◌, ◌||◌, not, Bool, true, false, cond, nat_lt, List, [], ◌∷◌, ◌++◌, length, take, get_or, position, Option, Some, None, refl, ap, sym, ◌∙◌, arith}
use Rattle.std.proofs.lemmas.Bool.{lt-ltb, le-ltb}
use Rattle.std.proofs.lemmas.Bool.Decides.{nat_tests}
use Rattle.std.proofs.lemmas.List.{take_more, take_all}
use Rattle.std.proofs.lemmas.List.Folds.{list_any-append}
use Rattle.std.specs.List.{list_any, position_or_len, before_first}
use Rattle.symbol_lines.specs.FrameTexts.{FrameText}
use Rattle.suppress_rules.specs.declared.rule.Kind.{Kind}
use Rattle.suppress_rules.specs.declared.rule.Kind.TheVariants.{Race, RaceTop, NeverMet}
use Rattle.suppress_rules.specs.declared.rule.Rule.{Rule}
use Rattle.suppress_rules.specs.Stacks.{frame_matches, is_met_by, is_met}
use Rattle.suppress_rules.specs.FrameTests.{frame_meets, some_other_meets, some_frame_meets}

-- ---- what stands before the first

next : (n : ℕ) → 1 + n ≡ suc n
next n = omega arith

module _ {X : Type 0} where
  before_first-cons : (p : X → Bool) (x : X) (xs : List X) → before_first p (x ∷ xs) ≡ cond (p x) [] (x ∷ before_first p xs)
  before_first-cons p x xs = by (p x)
    where
      by : (b : Bool) → take (cond (not b) (1 + position_or_len p xs) 0) (x ∷ xs) ≡ cond b [] (x ∷ before_first p xs)
      by true = refl
      by false = ap (λ n. take n (x ∷ xs)) (next (position_or_len p xs))

  -- what stands before the first of one kind, and in this before the first of another
  pub before_first-twice : (p q : X → Bool) (xs : List X) → before_first q (before_first p xs) ≡ before_first (λ x. p x || q x) xs
  before_first-twice p q [] = refl
  before_first-twice p q (x ∷ xs) = ap (before_first q) (before_first-cons p x xs) ∙ by (p x) (before_first-twice p q xs) ∙ sym (before_first-cons (λ y. p y || q y) x xs)
    where
      by : (b : Bool) → before_first q (before_first p xs) ≡ before_first (λ y. p y || q y) xs → before_first q (cond b [] (x ∷ before_first p xs)) ≡ cond (b || q x) [] (x ∷ before_first (λ y. p y || q y) xs)
      by true rest = refl
      by false rest = before_first-cons q x (before_first p xs) ∙ ap (λ l. cond (q x) [] (x ∷ l)) rest

  length-before_first : (p : X → Bool) (xs : List X) → length (before_first p xs) ≡ position_or_len p xs
  length-before_first p [] = refl
  length-before_first p (x ∷ xs) = by (p x) (length-before_first p xs)
    where
      by : (b : Bool) → length (before_first p xs) ≡ position_or_len p xs → length (take (cond (not b) (1 + position_or_len p xs) 0) (x ∷ xs)) ≡ cond (not b) (1 + position_or_len p xs) 0
      by true rest = refl
      by false rest = ap (λ n. length (take n (x ∷ xs))) (next (position_or_len p xs)) ∙ ap suc rest ∙ sym (next (position_or_len p xs))

  -- it is as long as the number of the first, if there is one
  pub first_past : (p : X → Bool) (xs left : List X) → left ≡ before_first p xs → length left < length xs → Some (length left) ≡ position p xs
  first_past p xs left is l =
      let n : length left ≡ position_or_len p xs = ap length is ∙ length-before_first p xs in
      let there : nat_lt (position_or_len p xs) (length xs) ≡ true = lt-ltb (position_or_len p xs) (length xs) (omega arith) in
      ap Some n ∙ sym (ap (λ b. cond b (Some (position_or_len p xs)) None) there)

  pub none_past : (p : X → Bool) (xs left : List X) → left ≡ before_first p xs → length xs ≤ length left → None ≡ position p xs
  none_past p xs left is l =
      let n : length left ≡ position_or_len p xs = ap length is ∙ length-before_first p xs in
      let none : nat_lt (position_or_len p xs) (length xs) ≡ false = le-ltb (position_or_len p xs) (length xs) (omega arith) in
      sym (ap (λ b. cond b (Some (position_or_len p xs)) None) none)

-- ---- one stack

-- some frame of the stack meets a rule of this kind, with a test of single frames
abbrev seen : Kind → (ℕ → Bool) → List ℕ → Bool
seen Race test places = list_any test places
seen RaceTop test places = list_any test (take 1 places)
seen NeverMet test places = false

none : (places : List ℕ) → list_any (λ _. false) places ≡ false
none [] = refl
none (p ∷ places) = none places

one_stack : (kind : Kind) (pattern : List ℕ) (frame_of : ℕ → FrameText) (places : List ℕ) → some_frame_meets frame_of places (record { kind = kind; pattern = pattern }) ≡ seen kind (λ p. frame_matches pattern (frame_of p)) places
one_stack Race pattern frame_of [] = refl
one_stack Race pattern frame_of (p ∷ places) = refl
one_stack RaceTop pattern frame_of [] = refl
one_stack RaceTop pattern frame_of (p ∷ places) = ap (λ b. frame_matches pattern (frame_of p) || b) (none places)
one_stack NeverMet pattern frame_of [] = refl
one_stack NeverMet pattern frame_of (p ∷ places) = none places

two_stacks : (kind : Kind) (test : ℕ → Bool) (one other : List ℕ) → (seen kind test one || seen kind test other) ≡ is_met_by kind test one other
two_stacks Race test one other = refl
two_stacks RaceTop test one other = refl
two_stacks NeverMet test one other = refl

-- two stacks meet the rule where a frame of either does
either : (frame_of : ℕ → FrameText) (one other : List ℕ) (rule : Rule) → (some_frame_meets frame_of one rule || some_frame_meets frame_of other rule) ≡ is_met frame_of one other rule
either frame_of one other rule =
    (λ i. one_stack rule.kind rule.pattern frame_of one i || one_stack rule.kind rule.pattern frame_of other i)
    ∙ two_stacks rule.kind (λ p. frame_matches rule.pattern (frame_of p)) one other

-- what is left after both stacks
pub left_of_both : (frame_of : ℕ → FrameText) (one other : List ℕ) (rules some left : List Rule) → some ≡ before_first (some_frame_meets frame_of one) rules → left ≡ before_first (some_frame_meets frame_of other) some
    → left ≡ before_first (is_met frame_of one other) rules
left_of_both frame_of one other rules some left first second =
    second ∙ ap (before_first (some_frame_meets frame_of other)) first
    ∙ before_first-twice (some_frame_meets frame_of one) (some_frame_meets frame_of other) rules
    ∙ (λ i. before_first (λ rule. either frame_of one other rule i) rules)

-- ---- frame by frame

or_none : (b : Bool) → (b || false) ≡ b
or_none true = refl
or_none false = refl

module _ {X : Type 0} where
  before_first-never : (xs : List X) → before_first (λ _. false) xs ≡ xs
  before_first-never [] = refl
  before_first-never (x ∷ xs) = before_first-cons (λ _. false) x xs ∙ ap (λ l. x ∷ l) (before_first-never xs)

-- no frame meets a rule
pub left_of_none : (rules : List Rule) → rules ≡ before_first (λ _. false) rules
left_of_none rules = sym (before_first-never rules)

pub left_of_empty : (frame_of : ℕ → FrameText) (places : List ℕ) (rules : List Rule) → length places ≡ 0 → rules ≡ before_first (some_frame_meets frame_of places) rules
left_of_empty frame_of [] rules e = left_of_none rules
left_of_empty frame_of (p ∷ places) rules e = absurd (omega arith)

-- after one more frame
pub left_of_next : (frame_of : ℕ → FrameText) (places : List ℕ) (n : ℕ) (frame : FrameText) (rules before left : List Rule) → n < length places → frame ≡ frame_of (get_or places n 0)
    → before ≡ before_first (some_other_meets frame_of (take n places)) rules → left ≡ before_first (frame_meets false frame) before
    → left ≡ before_first (some_other_meets frame_of (take (n + 1) places)) rules
left_of_next frame_of places n frame rules before left l is before_is left_is =
    left_is ∙ (λ i. before_first (frame_meets false (is i)) (before_is i))
    ∙ before_first-twice (some_other_meets frame_of (take n places)) (frame_meets false (frame_of place)) rules
    ∙ (λ i. before_first (λ rule. more rule i) rules)
    ∙ sym (ap (λ ps. before_first (some_other_meets frame_of ps) rules) (take_more places n 0 l))
  where
    place : ℕ
    place = get_or places n 0

    more : (rule : Rule) → (some_other_meets frame_of (take n places) rule || frame_meets false (frame_of place) rule) ≡ some_other_meets frame_of (take n places ++ place ∷ []) rule
    more rule =
        let test : ℕ → Bool = λ p. frame_meets false (frame_of p) rule in
        ap (λ b. list_any test (take n places) || b) (sym (or_none (test place))) ∙ sym (list_any-append test (take n places) (place ∷ []))

-- after the first frame and the others
pub left_of_all : (frame_of : ℕ → FrameText) (top : ℕ) (places below : List ℕ) (frame : FrameText) (rules some left : List Rule) → places ≡ top ∷ below → frame ≡ frame_of top
    → some ≡ before_first (frame_meets true frame) rules → left ≡ before_first (some_other_meets frame_of below) some → left ≡ before_first (some_frame_meets frame_of places) rules
left_of_all frame_of top places below frame rules some left places_are is some_is left_is =
    left_is ∙ (λ i. before_first (some_other_meets frame_of below) (some_is i))
    ∙ before_first-twice (frame_meets true frame) (some_other_meets frame_of below) rules
    ∙ (λ i. before_first (λ rule. frame_meets true (is i) rule || some_other_meets frame_of below rule) rules)
    ∙ sym (ap (λ ps. before_first (some_frame_meets frame_of ps) rules) places_are)

-- what stands before a place that was found, and all where none was
position-some : {X : Type 0} (p : X → Bool) (xs : List X) (b : Bool) (at : ℕ) → cond b (Some (position_or_len p xs)) None ≡ Some at → at ≡ position_or_len p xs
position-some p xs true at found = (let e : position_or_len p xs ≡ at = cc in sym e)
position-some p xs false at found = cc

pub left_of_found : {X : Type 0} (p : X → Bool) (xs : List X) (at : ℕ) (r : Option ℕ) → r ≡ position p xs → r ≡ Some at → take at xs ≡ before_first p xs
left_of_found p xs at r is found = ap (λ n. take n xs) (position-some p xs (nat_lt (position_or_len p xs) (length xs)) at (sym is ∙ found))

position-none : (a b : ℕ) (t : Bool) → nat_lt a b ≡ t → cond t (Some a) None ≡ None → b ≤ a
position-none a b true is none = cc
position-none a b false is none = grind (arith, nat_tests)

pub left_of_unfound : {X : Type 0} (p : X → Bool) (xs : List X) (r : Option ℕ) → r ≡ position p xs → r ≡ None → xs ≡ before_first p xs
left_of_unfound p xs r is none = sym (take_all (position_or_len p xs) xs (position-none (position_or_len p xs) (length xs) (nat_lt (position_or_len p xs) (length xs)) refl (sym is ∙ none)))

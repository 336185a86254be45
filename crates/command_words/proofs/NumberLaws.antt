-- How the number that a text writes is read.
use Rattle.std.proofs.Common.{ℕ, ◌≡◌, ◌≤◌, ◌<◌, ◌^◌, ◌&&◌, Bool, true≢false, inl, inr, zero, suc, [], ◌∷◌, true, false, if◌then◌else◌, List, Option, Some, None, Ok, Err, ap, arith, length, refl, rules, sym, nat_le, leb-true}
use Rattle.std.specs.Char.{is_ascii_digit}
use Rattle.std.specs.List.{list_all, slice_index_or}
use Rattle.std.specs.Option.{IfNone, is_some, option_map_or, unwrap_or}
use Rattle.std.proofs.lemmas.List.Folds.{list_all_at}
use Rattle.std.specs.Str.Parse.{ParsesUnsigned, digits_value}
use Rattle.std.proofs.lemmas.Bool.{cases_lt}
use Rattle.std.proofs.lemmas.Bool.Decides.{nat_tests}
use Rattle.std.proofs.lemmas.Str.Parse.{IsDigitsTest, IsNumeralModel, numerals_by_value, parse_digits}
use Rattle.clap.specs.Walk.{Row, Text}
use Rattle.run_record.specs.declared.limits.Limits.{Limits}
use Rattle.command_words.specs.Numbers.{NumberOption, epochs, given, harts, has_numbers, is_between, is_numeral, limits_in, number, number_in, number_of, number_options, part_words, parts, quantum, seed, size, slots, steps}

are_digits : IsDigitsTest (λ text. list_all is_ascii_digit text ≡ true)
are_digits = search rules

decimal : IsNumeralModel (λ text. list_all is_ascii_digit text ≡ true) (digits_value 10)
decimal = numerals_by_value _ are_digits

pub both : (a b : Bool) → (a && b) ≡ true → (a ≡ true) × (b ≡ true)
both true b e = (refl, e)
both false b e = absurd (true≢false (sym e))

numeral_parts : (digits : ℕ) (text : Text) → is_numeral digits text ≡ true → (1 ≤ length text) × (list_all is_ascii_digit text ≡ true)
numeral_parts digits text h =
    let outer = both _ _ h in
    (leb-true _ _ outer.0, (both _ _ outer.1).1)

past_the_most : (least most n : ℕ) → most < n → is_between least most n ≡ false
past_the_most least most n h = grind (arith, nat_tests)

-- a text that is no such numeral writes no number
pub no_numeral : (digits least most : ℕ) (text : Text) → is_numeral digits text ≡ false → None ≡ number_of digits least most text
unfolding number_of
no_numeral digits least most text h = rw h refl

-- a numeral that was read writes its number, if that is in the range
pub numeral_read : (digits least most n : ℕ) (text : Text) → ParsesUnsigned {E = ℕ} 32 10 text (Ok n) → is_numeral digits text ≡ true
    → (if is_between least most n then Some n else None) ≡ number_of digits least most text
unfolding number_of
numeral_read digits least most n text read h =
    let is : n ≡ digits_value 10 text = (parse_digits decimal {E = ℕ} 32 text (Ok n) read (numeral_parts digits text h).1).1 in
    rw (h, is) refl

-- a numeral that was too great to be read writes no number of 32 bits
pub numeral_too_great : (digits least most : ℕ) (text : Text) → ParsesUnsigned {E = ℕ} 32 10 text (Err 0) → is_numeral digits text ≡ true
    → most < 2 ^ 32 → None ≡ number_of digits least most text
unfolding number_of
numeral_too_great digits least most text unread h small =
    let known = numeral_parts digits text h in
    let great : 2 ^ 32 ≤ digits_value 10 text = elim (cases_lt (digits_value 10 text) (2 ^ 32)) [
      | inl less ↦ absurd (parse_digits decimal {E = ℕ} 32 text (Err 0) unread known.1 (known.0, less))
      | inr at_least ↦ at_least
    ] in
    let past : most < digits_value 10 text = omega arith in
    rw (h, past_the_most least most _ past) refl

-- ---- the options

pub text_of_option : (rows : List Row) (option : NumberOption) (text : Text) (n : Option ℕ) → Some text ≡ given rows option.name
    → n ≡ number_of 10 option.least option.most text → n ≡ number_in rows option
unfolding number_in
text_of_option rows option text n is read = rw (← is) read

pub no_text : (rows : List Row) (option : NumberOption) → None ≡ given rows option.name → Some option.default ≡ number_in rows option
unfolding number_in
no_text rows option is = rw (← is) refl

-- one option has no number
pub lacks_number : (rows : List Row) (i : ℕ) → i < 9 → None ≡ number_in rows (slice_index_or number_options i harts) → has_numbers rows ≡ false
unfolding has_numbers
lacks_number rows i lt is = list_all_at (λ option. is_some (number_in rows option)) number_options i harts lt (ap is_some (sym is))

pub if_none : {A : Type 0} (o : Option A) (P : Type 0) → P → IfNone o P
if_none None P p = p
if_none (Some x) P p = tt

-- the options have these numbers
pub record HasThese (rows : List Row) (n : Limits) (r z : ℕ) : Type 0 where
  pub harts_is : Some n.harts ≡ number_in rows harts
  pub slots_is : Some n.slots ≡ number_in rows slots
  pub epochs_is : Some n.epochs ≡ number_in rows epochs
  pub steps_is : Some n.steps ≡ number_in rows steps
  pub quantum_is : Some n.quantum ≡ number_in rows quantum
  pub parts_is : Some n.parts ≡ number_in rows parts
  pub part_words_is : Some n.part_words ≡ number_in rows part_words
  pub seed_is : Some r ≡ number_in rows seed
  pub size_is : Some z ≡ number_in rows size

pub has_all : (rows : List Row) (n : Limits) (r z : ℕ) → HasThese rows n r z → has_numbers rows ≡ true
unfolding has_numbers
has_all rows n r z h =
    rw (← h.harts_is, ← h.slots_is, ← h.epochs_is, ← h.steps_is, ← h.quantum_is, ← h.parts_is, ← h.part_words_is, ← h.seed_is, ← h.size_is) refl

pub limits_are : (rows : List Row) (n : Limits) (r z : ℕ) → HasThese rows n r z → n ≡ limits_in rows
unfolding limits_in
limits_are rows n r z h =
    rw (← h.harts_is, ← h.slots_is, ← h.epochs_is, ← h.steps_is, ← h.quantum_is, ← h.parts_is, ← h.part_words_is) refl

-- ---- ranges

pub number_of_range : (digits least most n : ℕ) (text : Text) → number_of digits least most text ≡ Some n → (least ≤ n) × (n ≤ most)
unfolding number_of
number_of_range digits least most n text h = chosen (is_numeral digits text) (is_between least most (digits_value 10 text)) refl h
  where
    chosen : (a b : Bool) → is_between least most (digits_value 10 text) ≡ b → (if a && b then Some (digits_value 10 text) else None) ≡ Some n → (least ≤ n) × (n ≤ most)
    chosen false b is e = cc
    chosen true false is e = cc
    chosen true true is e =
        let same : digits_value 10 text ≡ n = cc in
        let sides = both (nat_le least (digits_value 10 text)) (nat_le (digits_value 10 text) most) is in
        (rw (← same) (leb-true _ _ sides.0), rw (← same) (leb-true _ _ sides.1))

number_in_range : (rows : List Row) (option : NumberOption) (n : ℕ) → option.least ≤ option.default → option.default ≤ option.most → number_in rows option ≡ Some n
    → (option.least ≤ n) × (n ≤ option.most)
unfolding number_in
number_in_range rows option n low high h = chosen (given rows option.name) h
  where
    chosen : (o : Option Text) → option_map_or (number_of 10 option.least option.most) o (Some option.default) ≡ Some n → (option.least ≤ n) × (n ≤ option.most)
    chosen (Some text) e = number_of_range 10 option.least option.most n text e
    chosen None e = let same : option.default ≡ n = cc in (rw (← same) low, rw (← same) high)

number_there : (o : Option ℕ) → is_some o ≡ true → o ≡ Some (unwrap_or o 0)
number_there (Some n) h = refl
number_there None h = cc

passes_at : {X : Type 0} (p : X → Bool) (xs : List X) (i : ℕ) (d : X) → i < length xs → list_all p xs ≡ true → p (slice_index_or xs i d) ≡ true
passes_at p [] i d lt all = absurd (omega arith)
passes_at p (x ∷ xs) zero d lt all = (both _ _ all).0
passes_at p (x ∷ xs) (suc i) d lt all = passes_at p xs i d (omega arith) (both _ _ all).1

-- each option's number is in its range
pub number_range : (rows : List Row) → has_numbers rows ≡ true → (i : ℕ) → i < 9
    → (slice_index_or number_options i harts).least ≤ (slice_index_or number_options i harts).default
    → (slice_index_or number_options i harts).default ≤ (slice_index_or number_options i harts).most
    → ((slice_index_or number_options i harts).least ≤ number rows (slice_index_or number_options i harts))
    × (number rows (slice_index_or number_options i harts) ≤ (slice_index_or number_options i harts).most)
unfolding has_numbers
number_range rows all i lt low high =
    let option = slice_index_or number_options i harts in
    number_in_range rows option (number rows option) low high (number_there (number_in rows option)
    (passes_at (λ (o : NumberOption). is_some (number_in rows o)) number_options i harts lt all))

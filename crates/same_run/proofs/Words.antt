-- Words that ask for something ask that at least one thread may live.
use Rattle.std.proofs.Common.{◌≡◌, ℕ, ◌≤◌, Bool, true, false, not, ◌&&◌, if◌then◌else◌, List, Option, Some, None, Ok, Err, refl, sym, ap, subst, ◌∙◌, leb-true, arith, inl, inr}
use Rattle.std.specs.Prelude.{is_some, unwrap_or, nat_le}
use Rattle.std.specs.Option.{option_map_or}
use Rattle.std.specs.Str.Parse.{digits_value}
use Rattle.std.proofs.lemmas.Bool.{cases_Bool, and_parts}
use Rattle.command_words.specs.declared.request.UsageFault.{UsageFault}
use Rattle.command_words.specs.declared.request.UsageFault.TheVariants as fault
use Rattle.command_words.specs.Numbers.{given, harts, is_numeral, is_between, number, number_in, number_of, has_numbers, limits_in}
use Rattle.command_words.specs.Command.{is_taken, matches}
use Rattle.command_words.specs.Requests.{RequestText, fault_in, has_command, has_right_file, ok_unless, request_in, request_from, request_of}

harts_there : (words : List (List ℕ)) → is_some (number_in (matches words) harts) ≡ true → 1 ≤ number (matches words) harts
unfolding number_in number_of
harts_there words = by_text (given (matches words) harts.name)
  where
    by_value : (n : ℕ) (written : Bool) → is_some (if written && is_between 1 64 n then Some n else None) ≡ true → 1 ≤ unwrap_or (if written && is_between 1 64 n then Some n else None) 0
    by_value n written q = elim (cases_Bool (written && is_between 1 64 n)) [
      | inl y ↦
          let p = and_parts written (is_between 1 64 n) y in
          let r = and_parts (nat_le 1 n) (nat_le n 64) p.1 in
          rw y (leb-true 1 n r.0)
      | inr y ↦ absurd (let z = sym (ap (λ b. is_some (if b then Some n else None)) y) ∙ q in cc)
    ]

    by_text : (o : Option (List ℕ)) → is_some (option_map_or (number_of 10 1 64) o (Some 4)) ≡ true → 1 ≤ unwrap_or (option_map_or (number_of 10 1 64) o (Some 4)) 0
    by_text None q = omega arith
    by_text (Some text) q = by_value (digits_value 10 text) (is_numeral 10 text) q

third_passes : (a b n : Bool) (p q r : UsageFault) (rest : Option UsageFault) → (if not a then Some p else (if not b then Some q else (if not n then Some r else rest))) ≡ None → n ≡ true
third_passes false b n p q r rest e = absurd cc
third_passes true false n p q r rest e = absurd cc
third_passes true true false p q r rest e = absurd cc
third_passes true true true p q r rest e = refl

faultless : (words : List (List ℕ)) → fault_in (matches words) ≡ None → 1 ≤ (limits_in (matches words)).harts
unfolding fault_in has_numbers limits_in
faultless words q =
    let all = third_passes (has_command (matches words)) (has_right_file (matches words)) (has_numbers (matches words)) _ _ _ _ q in
    harts_there words (and_parts (is_some (number_in (matches words) harts)) _ all).0

-- what is asked for lets at least one thread live
pub some_harts : (words : List (List ℕ)) (request : RequestText) → request_of words ≡ Ok request → 1 ≤ request.limits.harts
unfolding request_of request_from
some_harts words request = by_words (is_taken words)
  where
    by_fault : (o : Option UsageFault) → fault_in (matches words) ≡ o → ok_unless o (request_in (matches words)) ≡ Ok request → 1 ≤ request.limits.harts
    by_fault None f q = let same : request_in (matches words) ≡ request = cc in subst (λ (r : RequestText). 1 ≤ r.limits.harts) same (faultless words f)
    by_fault (Some e) f q = absurd cc

    by_words : (b : Bool) → (if b then ok_unless (fault_in (matches words)) (request_in (matches words)) else Err fault.Words) ≡ Ok request → 1 ≤ request.limits.harts
    by_words true q = by_fault (fault_in (matches words)) refl q
    by_words false q = absurd cc

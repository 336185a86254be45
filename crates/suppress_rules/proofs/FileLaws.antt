-- Lines read one after another.
use Rattle.std.proofs.Common.{◌≡◌, ℕ, ◌+◌, ◌-◌, ◌<◌, ◌≤◌, ◌==◌, false, List, [], ◌∷◌, ◌++◌, length, Ok, Err, Result, Option, Some, None, Bor, refl, sym, ap, ◌∙◌, inl, inr, arith, length-drop}
use Rattle.std.proofs.lemmas.Bool.{cases_lt, eqb-false, cond-true, cond-false, false_from_ne_true}
use Rattle.std.proofs.lemmas.Str.{IsUtf8-from_is_utf8, is_utf8-from_IsUtf8}
use Rattle.std.specs.Str.{IsUtf8, is_utf8}
use Rattle.suppress_rules.specs.declared.fault.RuleFault.TheVariants.{NotUtf8}
use Rattle.std.proofs.lemmas.List.{append-nil, append_assoc, take_all, drop_all, nil_from_length}
use Rattle.std.proofs.lemmas.List.Splits.{slice_split_first, slice_split_none}
use Rattle.std.proofs.lemmas.List.Sums.{fails_before_first}
use Rattle.std.specs.List.{before_first, after_first, position_or_len}
use Rattle.suppress_rules.specs.declared.rule.Kind.{Kind}
use Rattle.suppress_rules.specs.declared.rule.Rule.{Rule}
use Rattle.suppress_rules.specs.declared.fault.RuleFault.{RuleFault}
use Rattle.suppress_rules.specs.RuleFile.{is_newline, lines_of, rules_from, rule_in, trimmed, line_then, prepended, rules_of}

-- a first line that isn't the last one
line_and_more : (number : ℕ) (bytes : List ℕ) → position_or_len is_newline bytes < length bytes →
    rules_from number (lines_of bytes) ≡ line_then (rule_in number (trimmed (before_first is_newline bytes))) (rules_from (number + 1) (lines_of (after_first is_newline bytes)))
line_and_more number bytes l = ap (rules_from number) (slice_split_first is_newline bytes 0 l)

-- the last line: an empty one below it gives nothing
last_line : (number : ℕ) (bytes : List ℕ) → length bytes ≤ position_or_len is_newline bytes →
    rules_from number (lines_of bytes) ≡ line_then (rule_in number (trimmed (before_first is_newline bytes))) (rules_from (number + 1) (lines_of (after_first is_newline bytes)))
last_line number bytes l =
    let before : before_first is_newline bytes ≡ bytes = take_all (position_or_len is_newline bytes) bytes l in
    let after : after_first is_newline bytes ≡ [] = drop_all (position_or_len is_newline bytes + 1) bytes (omega arith) in
    ap (rules_from number) (slice_split_none is_newline bytes (λ k d h. fails_before_first is_newline bytes k d (omega arith)))
    ∙ sym (λ i. line_then (rule_in number (trimmed (before i))) (rules_from (number + 1) (lines_of (after i))))

-- what a file gives, by its first line
pub first_then : (number : ℕ) (bytes : List ℕ) →
    rules_from number (lines_of bytes) ≡ line_then (rule_in number (trimmed (before_first is_newline bytes))) (rules_from (number + 1) (lines_of (after_first is_newline bytes)))
first_then number bytes =
    elim (cases_lt (position_or_len is_newline bytes) (length bytes)) [
      | inl l ↦ line_and_more number bytes l
      | inr l ↦ last_line number bytes l
    ]

pub prepended_more : (rules : List Rule) (rule : Rule) (below : Result (List Rule) RuleFault) → prepended (rules ++ rule ∷ []) below ≡ prepended rules (prepended (rule ∷ []) below)
prepended_more rules rule (Ok more) = ap Ok (append_assoc rules (rule ∷ []) more)
prepended_more rules rule (Err fault) = refl

-- the end of a file
pub at_end : (number : ℕ) (rules : List Rule) (bytes : List ℕ) → length bytes ≡ 0 → Ok rules ≡ prepended rules (rules_from number (lines_of bytes))
at_end number rules bytes e =
    ap Ok (sym (append-nil rules)) ∙ ap (λ b. prepended rules (rules_from number (lines_of b))) (sym (nil_from_length bytes e))

-- the same, where the line and what is below it were cut off
line_gives : (number : ℕ) (bytes line below : List ℕ) (r : Result (Option Rule) RuleFault) → line ≡ trimmed (before_first is_newline bytes) → below ≡ after_first is_newline bytes →
    rule_in number line ≡ r → line_then r (rules_from (number + 1) (lines_of below)) ≡ rules_from number (lines_of bytes)
line_gives number bytes line below r first rest e =
    (λ i. line_then (e' i) (rules_from (number + 1) (lines_of (rest i)))) ∙ sym (first_then number bytes)
  where
    e' : r ≡ rule_in number (trimmed (before_first is_newline bytes))
    e' = sym e ∙ ap (rule_in number) first

-- a line without a rule
pub skips : (number : ℕ) (rules : List Rule) (bytes line below : List ℕ) → line ≡ trimmed (before_first is_newline bytes) → below ≡ after_first is_newline bytes →
    rule_in number line ≡ Ok None → prepended rules (rules_from (number + 1) (lines_of below)) ≡ prepended rules (rules_from number (lines_of bytes))
skips number rules bytes line below first rest e = ap (prepended rules) (line_gives number bytes line below (Ok None) first rest e)

-- a line with a rule
pub adds : (number : ℕ) (rules more : List Rule) (rule : Rule) (bytes line below : List ℕ) → line ≡ trimmed (before_first is_newline bytes) → below ≡ after_first is_newline bytes →
    rule_in number line ≡ Ok (Some rule) → more ≡ rules ++ rule ∷ [] → prepended more (rules_from (number + 1) (lines_of below)) ≡ prepended rules (rules_from number (lines_of bytes))
adds number rules more rule bytes line below first rest e grown =
    ap (λ l. prepended l (rules_from (number + 1) (lines_of below))) grown
    ∙ prepended_more rules rule (rules_from (number + 1) (lines_of below))
    ∙ ap (prepended rules) (line_gives number bytes line below (Ok (Some rule)) first rest e)

-- a line with a fault
pub fails : (number : ℕ) (rules : List Rule) (fault : RuleFault) (bytes line below : List ℕ) → line ≡ trimmed (before_first is_newline bytes) → below ≡ after_first is_newline bytes →
    rule_in number line ≡ Err fault → Err fault ≡ prepended rules (rules_from number (lines_of bytes))
fails number rules fault bytes line below first rest e = ap (prepended rules) (line_gives number bytes line below (Err fault) first rest e)

-- what is below the first line is shorter
pub below_shorter : (bytes below : List ℕ) → below ≡ after_first is_newline bytes → (length bytes == 0) ≡ false → length below + 1 ≤ length bytes
below_shorter bytes below rest e =
    let some : length bytes ≡ 0 → ⊥ = eqb-false (length bytes) 0 e in
    let at : length below ≡ length bytes - (position_or_len is_newline bytes + 1) = ap length rest ∙ length-drop (position_or_len is_newline bytes + 1) bytes in
    omega arith

-- a rule as a line has it
abbrev pub shown : Kind × Bor (List ℕ) → Rule
shown rule = record { kind = rule.0; pattern = rule.1.now }

pub of_text : (bytes text : List ℕ) → text ≡ bytes → IsUtf8 bytes → rules_of bytes ≡ rules_from 1 (lines_of text)
of_text bytes text same utf8 = cond-true (is_utf8 bytes) _ _ (is_utf8-from_IsUtf8 bytes utf8) ∙ ap (λ b. rules_from 1 (lines_of b)) (sym same)

pub of_no_text : (bytes : List ℕ) → (IsUtf8 bytes → ⊥) → rules_of bytes ≡ Err NotUtf8
of_no_text bytes bad = cond-false (is_utf8 bytes) _ _ (false_from_ne_true (is_utf8 bytes) (λ e. bad (IsUtf8-from_is_utf8 bytes e)))

-- What a line gives.
use Rattle.std.proofs.Common.{◌≡◌, ℕ, ◌==◌, false, List, ◌∷◌, ◌++◌, length, codes, sym, ◌∙◌, Err}
use Rattle.std.proofs.lemmas.Bool.{or_from, cond-false, cond-true}
use Rattle.std.specs.List.{list_any, starts_with}
use Rattle.suppress_rules.specs.declared.fault.RuleFault.TheVariants.{NoColon}
use Rattle.suppress_rules.specs.RuleFile.{is_skipped, is_colon, kind_of, typed_rule, rule_in}
use Rattle.suppress_rules.proofs.CutLaws.{Lacks, before_cut, after_cut, any_cut, any_none}

pub not_skipped : (line : List ℕ) → (length line == 0) ≡ false → starts_with ◌==◌ line (codes "#") ≡ false → is_skipped line ≡ false
not_skipped line e f = or_from (length line == 0) (starts_with ◌==◌ line (codes "#")) e f

pub rule_without_colon : (number : ℕ) (line : List ℕ) → is_skipped line ≡ false → Lacks 58 line → rule_in number line ≡ Err (NoColon number)
rule_without_colon number line e h =
    cond-false (is_skipped line) _ _ e ∙ cond-false (list_any is_colon line) _ _ (any_none 58 line h)

pub rule_with_colon : (number : ℕ) (line name pattern : List ℕ) → is_skipped line ≡ false → line ≡ name ++ 58 ∷ pattern → Lacks 58 name →
    rule_in number line ≡ typed_rule number (kind_of name) pattern
rule_with_colon number line name pattern e cut h =
    cond-false (is_skipped line) _ _ e ∙ cond-true (list_any is_colon line) _ _ (any_cut 58 line name pattern cut)
    ∙ sym (λ i. typed_rule number (kind_of (before_cut 58 line name pattern cut h i)) (after_cut 58 line name pattern cut h i))

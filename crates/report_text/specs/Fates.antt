-- What is known of pairs of stacks.
use Rattle.std.specs.Prelude.{◌≡◌, ℕ, ◌+◌, List, map, position, Option, Some, None}
use Rattle.std.specs.Option.{option_map}
use Rattle.std.specs.Map.{lookup}
use Rattle.run_record.specs.declared.report.Report.{Report}
use Rattle.report_text.specs.declared.fates.Fate.{Fate}
use Rattle.report_text.specs.declared.fates.Fate.TheVariants.{Met, Told}
use Rattle.report_text.specs.declared.stack_pair.StackPair.{StackPair}
use Rattle.report_text.specs.Pairs.{stacks_of, same_stacks}

-- It is what is known of a pair about which the rules answer `met`, and whose first report stands at this place: a pair of
-- which nothing is known has no report.
abbrev pub IsFate : Option ℕ → Option ℕ → Option Fate → Type 0
IsFate met place None = place ≡ None
IsFate met place (Some (Met rule)) = met ≡ Some rule
IsFate met place (Some (Told number)) = (met ≡ None) × (option_map (λ at. at + 1) place ≡ Some number)

-- The entries know of each pair, in either order, what the rules answer, and which report is the first that has it.
abbrev pub KnowsFates : (Option (List ℕ) → Option (List ℕ) → Option ℕ) → List Report → List (StackPair × Fate) → Type 0
KnowsFates rule_of reports entries =
    (p : StackPair) → IsFate (rule_of p.mine p.previous) (position (same_stacks p) (map stacks_of reports)) (lookup (same_stacks p) entries)

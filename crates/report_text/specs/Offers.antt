-- What becomes of an offered race.
use Rattle.std.specs.Prelude.{ℕ, ◌+◌, Bool, List, length, position, Option, Some, None, is_some}
use Rattle.std.specs.Option.{option_map_or}
use Rattle.run_record.specs.declared.report.Report.{Report}
use Rattle.run_laws.specs.Reports.{Kept, is_equal}
use Rattle.report_text.specs.declared.reporter.Offered.{Offered}
use Rattle.report_text.specs.declared.reporter.Offered.TheVariants.{Reported, Suppressed, Equal}

-- What contracts see of a reporter: the rules, and what is kept of the offered races.
pub record Reporting (S : Type 0) : Type 0 where
  pub rules : S
  pub kept : Kept

-- the answer where the stacks meet this rule first, or none: reports are numbered from 1, and the first equal one counts
abbrev pub offered : Kept → Option ℕ → Report → Offered
offered kept (Some rule) r = Suppressed rule
offered kept None r = option_map_or (λ at. Equal (at + 1)) (position (is_equal r) kept.reports) (Reported (length kept.reports + 1))

-- whether two stacks meet some rule, by which they meet first
abbrev pub is_met : (Option (List ℕ) → Option (List ℕ) → Option ℕ) → Option (List ℕ) → Option (List ℕ) → Bool
is_met rule_of mine previous = is_some (rule_of mine previous)

-- how many races were offered
abbrev pub offers : Kept → ℕ
offers kept = length kept.reports + kept.suppressed + kept.equal

-- The order of two stacks doesn't count.
use Rattle.std.specs.Prelude.{◌≡◌, ℕ, ◌||◌, Bool, true, false, List, take, position, refl}
use Rattle.std.specs.List.{list_any}
use Rattle.symbol_lines.specs.FrameTexts.{FrameText}
use Rattle.suppress_rules.specs.declared.rule.Kind.{Kind}
use Rattle.suppress_rules.specs.declared.rule.Kind.TheVariants.{Race, RaceTop, NeverMet}
use Rattle.suppress_rules.specs.declared.rule.Rule.{Rule}
use Rattle.suppress_rules.specs.Stacks.{frame_matches, is_met_by, first_met}

either_order : (a b : Bool) → (a || b) ≡ (b || a)
either_order true true = refl
either_order true false = refl
either_order false true = refl
either_order false false = refl

is_met_by-turned : (kind : Kind) (test : ℕ → Bool) (one other : List ℕ) → is_met_by kind test one other ≡ is_met_by kind test other one
is_met_by-turned Race test one other = either_order (list_any test one) (list_any test other)
is_met_by-turned RaceTop test one other = either_order (list_any test (take 1 one)) (list_any test (take 1 other))
is_met_by-turned NeverMet test one other = refl

-- two stacks meet the same rule first in either order
pub first_met-turned : (rules : List Rule) (frame_of : ℕ → FrameText) (one other : List ℕ) → first_met rules frame_of one other ≡ first_met rules frame_of other one
first_met-turned rules frame_of one other = λ i. position (λ (rule : Rule). is_met_by-turned rule.kind (λ place. frame_matches rule.pattern (frame_of place)) one other i) rules

-- Rules, and the stacks that meet them.
use Rattle.std.specs.Prelude.{ℕ, ◌||◌, Bool, false, List, [], take, position, Option, unwrap_or}
use Rattle.std.specs.List.{list_any}
use Rattle.symbol_lines.specs.FrameTexts.{FrameText}
use Rattle.suppress_rules.specs.declared.rule.Kind.{Kind}
use Rattle.suppress_rules.specs.declared.rule.Kind.TheVariants.{Race, RaceTop, NeverMet}
use Rattle.suppress_rules.specs.declared.rule.Rule.{Rule}
use Rattle.suppress_rules.specs.Patterns.{matches}

-- the pattern matches the name of the function or the file
abbrev pub frame_matches : List ℕ → FrameText → Bool
frame_matches pattern frame = matches pattern frame.name || matches pattern frame.file

-- two stacks meet a rule of this kind, with a test of single frames: `race` by any frame, `race_top` by a first one
abbrev pub is_met_by : Kind → (ℕ → Bool) → List ℕ → List ℕ → Bool
is_met_by Race test one other = list_any test one || list_any test other
is_met_by RaceTop test one other = list_any test (take 1 one) || list_any test (take 1 other)
is_met_by NeverMet test one other = false

-- two stacks of places meet the rule, by what is known of the places
abbrev pub is_met : (ℕ → FrameText) → List ℕ → List ℕ → Rule → Bool
is_met frame_of one other rule = is_met_by rule.kind (λ place. frame_matches rule.pattern (frame_of place)) one other

-- the number of the first rule that the stacks meet, from 0
abbrev pub first_met : List Rule → (ℕ → FrameText) → List ℕ → List ℕ → Option ℕ
first_met rules frame_of one other = position (is_met frame_of one other) rules

-- the places of a stack; a lost one has no frames
abbrev pub places_of : Option (List ℕ) → List ℕ
places_of stack = unwrap_or stack []

-- the stacks meet some rule
abbrev pub meets_of : List Rule → (ℕ → FrameText) → Option (List ℕ) → Option (List ℕ) → Bool
meets_of rules frame_of one other = list_any (is_met frame_of (places_of one) (places_of other)) rules

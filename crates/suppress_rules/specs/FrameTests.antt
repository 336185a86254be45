-- Rules, frame by frame.
use Rattle.std.specs.Prelude.{ℕ, ◌&&◌, ◌||◌, Bool, true, false, List, [], ◌∷◌}
use Rattle.std.specs.List.{list_any}
use Rattle.symbol_lines.specs.FrameTexts.{FrameText}
use Rattle.symbol_lines.specs.FileTexts.{text_of}
use Rattle.symbol_lines.specs.declared.frames.Frame.{Frame}
use Rattle.suppress_rules.specs.declared.rule.Kind.{Kind}
use Rattle.suppress_rules.specs.declared.rule.Kind.TheVariants.{Race, RaceTop, NeverMet}
use Rattle.suppress_rules.specs.declared.rule.Rule.{Rule}
use Rattle.suppress_rules.specs.Stacks.{frame_matches}

-- what a frame tells
abbrev pub told_by : Frame → FrameText
told_by frame = record { name = frame.name.now; file = text_of frame.file; line = frame.line }

-- whether a rule of this kind looks at a frame, which is its stack's first one or not
abbrev pub looks_at : Kind → Bool → Bool
looks_at Race first = true
looks_at RaceTop first = first
looks_at NeverMet first = false

-- a frame, which is its stack's first one or not, meets the rule
abbrev pub frame_meets : Bool → FrameText → Rule → Bool
frame_meets first frame rule = looks_at rule.kind first && frame_matches rule.pattern frame

-- some frame of these, none of which is its stack's first one, meets the rule
abbrev pub some_other_meets : (ℕ → FrameText) → List ℕ → Rule → Bool
some_other_meets frame_of places rule = list_any (λ place. frame_meets false (frame_of place) rule) places

-- some frame of the stack meets the rule
abbrev pub some_frame_meets : (ℕ → FrameText) → List ℕ → Rule → Bool
some_frame_meets frame_of [] rule = false
some_frame_meets frame_of (place ∷ places) rule = frame_meets true (frame_of place) rule || some_other_meets frame_of places rule

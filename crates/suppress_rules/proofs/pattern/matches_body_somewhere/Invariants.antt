use Rattle.std.proofs.Common.{◌≡◌, length}
use Rattle.suppress_rules.specs.Patterns as patterns
use Rattle.suppress_rules.specs.Texts.{text_view}
use Rattle.suppress_rules.proofs.pattern.matches_body_somewhere.Given as goal

abbrev pub invariant-loop-piece : goal.invariant-loop-piece
invariant-loop-piece l = patterns.some_end (patterns.matches_body l.bound l.pattern) (text_view l.text) ≡ patterns.some_end (patterns.matches_body l.bound l.initial.pattern) (text_view l.initial.text)

abbrev pub decreases-loop-piece : goal.decreases-loop-piece
decreases-loop-piece l = length l.pattern

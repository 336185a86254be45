use Rattle.std.proofs.Common.{◌≡◌, length}
use Rattle.suppress_rules.specs.Pieces as pieces
use Rattle.suppress_rules.specs.Texts.{text_view}
use Rattle.suppress_rules.proofs.pattern.after_piece.Given as goal

abbrev pub invariant-loop-after : goal.invariant-loop-after
invariant-loop-after l = pieces.after_piece l.piece (text_view l.rest) ≡ pieces.after_piece l.piece (text_view l.initial.rest)

abbrev pub decreases-loop-after : goal.decreases-loop-after
decreases-loop-after l = length (text_view l.rest)

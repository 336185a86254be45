use Rattle.std.proofs.Common.{◌∙◌}
use Rattle.suppress_rules.specs.Texts.{text_view}
use Rattle.suppress_rules.proofs.PatternLaws.{piece_found}
use Rattle.suppress_rules.proofs.pattern.after_piece.Goals as goal

pub returns-in-Some : goal.returns-in-Some
returns-in-Some c = piece_found c.args.piece.now (text_view c.loop-after.rest) (text_view c.in-Some.after) c.in-Some.ensures ∙ c.loop-after.invariant

use Rattle.std.proofs.Common.{sym, ap, ◌∙◌, is_some}
use Rattle.suppress_rules.specs.Patterns as patterns
use Rattle.suppress_rules.specs.Texts.{text_view}
use Rattle.suppress_rules.proofs.PatternLaws.{past_piece, no_piece, bound_end, open_end, found}
use Rattle.suppress_rules.proofs.pattern.matches_body_somewhere.Goals as goal

pub returns-in-None : goal.returns-in-None
returns-in-None c =
    no_piece c.args.bound c.loop-piece.pattern.now (text_view c.loop-piece.text) c.in-Some.piece.now c.in-Some.rest.now c.in-Some.ensures.0 c.in-Some.ensures.1 c.in-None.ensures
    ∙ c.loop-piece.invariant

pub loop-piece-preserved : goal.loop-piece-preserved
loop-piece-preserved c =
    past_piece c.args.bound c.loop-piece.pattern.now (text_view c.loop-piece.text) c.in-Some.piece.now c.in-Some.rest.now (text_view c.in-Some-after_piece.after) c.in-Some.ensures.0 c.in-Some.ensures.1 c.in-Some-after_piece.ensures
    ∙ c.loop-piece.invariant

pub returns-then-bound : goal.returns-then-bound
returns-then-bound c =
    c.text_ends_with.ensures ∙ sym (bound_end c.loop-piece.pattern.now (text_view c.loop-piece.text) c.in_default.ensures)
    ∙ ap (λ b. patterns.some_end (patterns.matches_body b c.loop-piece.pattern.now) (text_view c.loop-piece.text)) (sym c.if-bound.true) ∙ c.loop-piece.invariant

pub returns-else-bound : goal.returns-else-bound
returns-else-bound c =
    c.is_some.ensures ∙ found c.after_piece-else-bound.result ∙ ap is_some c.after_piece-else-bound.ensures
    ∙ sym (open_end c.loop-piece.pattern.now (text_view c.loop-piece.text) c.in_default.ensures)
    ∙ ap (λ b. patterns.some_end (patterns.matches_body b c.loop-piece.pattern.now) (text_view c.loop-piece.text)) (sym c.if-bound.false) ∙ c.loop-piece.invariant

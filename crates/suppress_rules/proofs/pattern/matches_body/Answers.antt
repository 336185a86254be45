use Rattle.std.proofs.Common.{◌==◌, ◌∙◌, length}
use Rattle.suppress_rules.specs.Texts.{text_view}
use Rattle.suppress_rules.proofs.PatternLaws.{star_found, star_missing, last_found, last_missing, open_is, bound_is}
use Rattle.suppress_rules.proofs.pattern.matches_body.Goals as goal

pub returns-in-Some-behind : goal.returns-in-Some-behind
returns-in-Some-behind c =
    c.matches_body_somewhere.ensures
    ∙ star_found c.args.bound c.args.pattern.now (text_view c.args.text) c.in-Some.piece.now c.in-Some.rest.now (text_view c.in-Some-behind.after) c.in-Some.ensures.0 c.in-Some.ensures.1 c.in-Some-behind.ensures

pub returns-in-None-behind : goal.returns-in-None-behind
returns-in-None-behind c =
    star_missing c.args.bound c.args.pattern.now (text_view c.args.text) c.in-Some.piece.now c.in-Some.rest.now c.in-Some.ensures.0 c.in-Some.ensures.1 c.in-None-behind.ensures

pub returns-then-not-bound : goal.returns-then-not-bound
returns-then-not-bound c =
    open_is c.args.bound (length (text_view c.in-Some-behind-2.after) == 0) c.if-not-bound.true
    ∙ last_found c.args.bound c.args.pattern.now (text_view c.args.text) (text_view c.in-Some-behind-2.after) c.in-None.ensures c.in-Some-behind-2.ensures

pub returns-else-not-bound : goal.returns-else-not-bound
returns-else-not-bound c =
    c.is_empty.ensures ∙ bound_is c.args.bound (length (text_view c.in-Some-behind-2.after) == 0) c.if-not-bound.false
    ∙ last_found c.args.bound c.args.pattern.now (text_view c.args.text) (text_view c.in-Some-behind-2.after) c.in-None.ensures c.in-Some-behind-2.ensures

pub returns-in-None-behind-2 : goal.returns-in-None-behind-2
returns-in-None-behind-2 c = last_missing c.args.bound c.args.pattern.now (text_view c.args.text) c.in-None.ensures c.in-None-behind-2.ensures

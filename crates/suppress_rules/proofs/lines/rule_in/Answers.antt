use Rattle.std.proofs.Common.{sym, ap, ◌∙◌}
use Rattle.suppress_rules.specs.RuleFile as file
use Rattle.suppress_rules.proofs.LineLaws.{not_skipped, rule_without_colon, rule_with_colon}
use Rattle.suppress_rules.proofs.lines.rule_in.Goals as goal

pub returns-in_default : goal.returns-in_default
returns-in_default c =
    rule_without_colon c.args.number c.args.line.now
    (not_skipped c.args.line.now (sym c.is_empty.ensures ∙ c.if-is_empty.false) (sym c.starts_with.ensures.value ∙ c.if-starts_with.false))
    c.in_default.ensures

pub returns-in-None : goal.returns-in-None
returns-in-None c =
    rule_with_colon c.args.number c.args.line.now c.in-Some.name.now c.in-Some.pattern.now
    (not_skipped c.args.line.now (sym c.is_empty.ensures ∙ c.if-is_empty.false) (sym c.starts_with.ensures.value ∙ c.if-starts_with.false))
    c.in-Some.ensures.0 c.in-Some.ensures.1
    ∙ ap (λ k. file.typed_rule c.args.number k c.in-Some.pattern.now) (sym c.in-None.ensures)

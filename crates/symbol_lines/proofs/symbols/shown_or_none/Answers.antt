use Rattle.std.proofs.Common.{Some, ap, sym, ◌∙◌}
use Rattle.symbol_lines.proofs.Texts.{shown_is, shown_none}
use Rattle.symbol_lines.proofs.symbols.shown_or_none.Goals as goal

pub returns-in-Ok : goal.returns-in-Ok
returns-in-Ok c =
    ap Some c.in-Ok.ensures.cases.0 ∙ sym (shown_is c.args.bytes.now (sym c.has_low_byte.ensures ∙ c.if-has_low_byte.false) c.in-Ok.ensures.cases.1)

pub returns-in-Err : goal.returns-in-Err
returns-in-Err c =
    sym (shown_none c.args.bytes.now (sym c.has_low_byte.ensures ∙ c.if-has_low_byte.false) c.in-Err.ensures.cases.0)

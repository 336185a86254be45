use Rattle.std.proofs.Common.{◌∙◌, sym, arith}
use Rattle.command_words.proofs.NumberLaws.{no_numeral, numeral_read, numeral_too_great}
use Rattle.command_words.proofs.numbers.number_of.Goals as goal

pub returns-then-not-is_numeral-clause-value : goal.returns-then-not-is_numeral-clause-value
returns-then-not-is_numeral-clause-value c = no_numeral _ _ _ _ (sym c.if-not-is_numeral.ensures)

pub returns-in-Ok-clause-value : goal.returns-in-Ok-clause-value
returns-in-Ok-clause-value c = c.within.ensures.value ∙ numeral_read _ _ _ c.in-Ok.number _ c.in-Ok.ensures.value.0 (sym c.if-not-is_numeral.ensures)

pub returns-in-Err-clause-value : goal.returns-in-Err-clause-value
returns-in-Err-clause-value c = numeral_too_great _ _ c.args.most _ c.in-Err.ensures.value.0 (sym c.if-not-is_numeral.ensures) (omega arith)

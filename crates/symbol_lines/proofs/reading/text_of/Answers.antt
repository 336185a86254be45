use Rattle.std.proofs.Common.{◌+◌, sym}
use Rattle.symbol_lines.proofs.Texts.{rest_is, text_found, text_missing}
use Rattle.symbol_lines.proofs.reading.text_of.Goals as goal

pub returns-in-Some : goal.returns-in-Some
returns-in-Some c = rw (rest_is c.args.bytes.now (c.in-Some.len + 1)) (sym (text_found c.args.bytes.now c.in-Some.len c.in-Some.ensures.value))

pub returns-in-None : goal.returns-in-None
returns-in-None c = sym (text_missing c.args.bytes.now c.in-None.ensures.value)

use Rattle.command_words.proofs.NumberLaws.{no_text, text_of_option}
use Rattle.command_words.specs.Command.{rows_read}
use Rattle.command_words.proofs.numbers.number.Goals as goal

pub returns-in-Some-clause-value : goal.returns-in-Some-clause-value
returns-in-Some-clause-value c =
    text_of_option (rows_read c.args.matches.now) (record { name = c.args.name.now; least = c.args.least; most = c.args.most; default = c.args.default })
    c.in-Some.text.now _ c.in-Some.ensures c.number_of.ensures.value

pub returns-in-None-clause-value : goal.returns-in-None-clause-value
returns-in-None-clause-value c =
    no_text (rows_read c.args.matches.now) (record { name = c.args.name.now; least = c.args.least; most = c.args.most; default = c.args.default })
    c.in-None.ensures

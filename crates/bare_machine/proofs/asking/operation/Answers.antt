use Rattle.bare_machine.proofs.asking.operation.Goals as goal

pub returns-then-addr-from-ne0-clause-within : goal.returns-then-addr-from-ne0-clause-within
returns-then-addr-from-ne0-clause-within c = c.faulted.ensures.within c.args.image.now

pub returns-in-Some-constant_word-clause-within : goal.returns-in-Some-constant_word-clause-within
returns-in-Some-constant_word-clause-within c = c.operation_at_constant.ensures.within c.args.image.now

pub returns-in-None-clause-within : goal.returns-in-None-clause-within
returns-in-None-clause-within c = c.faulted-in-None.ensures.within c.args.image.now

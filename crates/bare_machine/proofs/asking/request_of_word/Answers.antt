use Rattle.bare_machine.proofs.asking.request_of_word.Goals as goal

pub returns-in_default-clause-within : goal.returns-in_default-clause-within
returns-in_default-clause-within c = c.faulted.ensures.within c.args.image.now

pub returns-in_default-decode-clause-within : goal.returns-in_default-decode-clause-within
returns-in_default-decode-clause-within c = c.faulted-in_default-decode.ensures.within c.args.image.now

use Rattle.bare_machine.proofs.asking.at_address.Goals as goal

pub returns-in-None-clause-within : goal.returns-in-None-clause-within
returns-in-None-clause-within c = c.faulted.ensures.within c.args.image.now

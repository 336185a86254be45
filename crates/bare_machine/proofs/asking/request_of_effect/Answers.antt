use Rattle.bare_machine.proofs.asking.request_of_effect.Goals as goal

pub returns-in-Fault-clause-within : goal.returns-in-Fault-clause-within
returns-in-Fault-clause-within c = c.faulted.ensures.within c.args.image.now

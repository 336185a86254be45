use Rattle.bare_machine.proofs.asking.request_of_call.Goals as goal

pub returns-in-Yield-clause-within : goal.returns-in-Yield-clause-within
returns-in-Yield-clause-within c = c.returned.ensures.within c.args.image.now

pub returns-in-Enter-clause-within : goal.returns-in-Enter-clause-within
returns-in-Enter-clause-within c = c.enter.ensures.within c.args.image.now

pub returns-in-Access-clause-within : goal.returns-in-Access-clause-within
returns-in-Access-clause-within c = c.returned-in-Access.ensures.within c.args.image.now

pub returns-in-Acquire-clause-within : goal.returns-in-Acquire-clause-within
returns-in-Acquire-clause-within c = c.returned-in-Acquire.ensures.within c.args.image.now

use Rattle.turn_laws.proofs.StepsLaw.{before_is, begin_is, event_is, end_is}
use Rattle.turn_laws.proofs.steps.moments_law.Goals as goal

pub returns-clause-before : goal.returns-clause-before
returns-clause-before c = before_is

pub returns-clause-begin : goal.returns-clause-begin
returns-clause-begin c = begin_is

pub returns-clause-event : goal.returns-clause-event
returns-clause-event c = event_is

pub returns-clause-end : goal.returns-clause-end
returns-clause-end c = end_is

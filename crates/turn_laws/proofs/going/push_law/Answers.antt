use Rattle.turn_laws.proofs.PushLaw.{right-none, right-event, right-quiet}
use Rattle.turn_laws.proofs.going.push_law.Goals as goal

pub returns-clause-none_yet : goal.returns-clause-none_yet
returns-clause-none_yet c = right-none

pub returns-clause-event : goal.returns-clause-event
returns-clause-event c = right-event

pub returns-clause-no_event : goal.returns-clause-no_event
returns-clause-no_event c = right-quiet

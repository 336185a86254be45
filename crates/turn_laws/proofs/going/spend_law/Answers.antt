use Rattle.turn_laws.proofs.PushLaw.{spent-none, spent-event, spent-after, spent-quiet}
use Rattle.turn_laws.proofs.going.spend_law.Goals as goal

pub returns-clause-none_yet : goal.returns-clause-none_yet
returns-clause-none_yet c = spent-none

pub returns-clause-event : goal.returns-clause-event
returns-clause-event c = spent-event

pub returns-clause-after : goal.returns-clause-after
returns-clause-after c = spent-after

pub returns-clause-no_event : goal.returns-clause-no_event
returns-clause-no_event c = spent-quiet

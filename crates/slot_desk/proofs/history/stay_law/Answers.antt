use Rattle.slot_desk.proofs.HistoryLaw.{at_event, at_nothing}
use Rattle.slot_desk.proofs.history.stay_law.Goals as goal

pub returns-clause-event : goal.returns-clause-event
returns-clause-event c = at_event

pub returns-clause-note : goal.returns-clause-note
returns-clause-note c = at_nothing

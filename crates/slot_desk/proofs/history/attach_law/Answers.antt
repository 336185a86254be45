use Rattle.slot_desk.proofs.HistoryLaw.{at_attach, clock_attached, label_attached}
use Rattle.slot_desk.proofs.history.attach_law.Goals as goal

pub returns-clause-desk : goal.returns-clause-desk
returns-clause-desk c = at_attach

pub returns-clause-label : goal.returns-clause-label
returns-clause-label c = label_attached

pub returns-clause-clock : goal.returns-clause-clock
returns-clause-clock c = clock_attached

use Rattle.slot_desk.proofs.HistoryLaw.{at_agrees}
use Rattle.slot_desk.proofs.history.earlier_law.Goals as goal

pub returns : goal.returns
returns c = at_agrees

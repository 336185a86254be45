use Rattle.slot_desk.proofs.HistoryLaw.{at_first}
use Rattle.slot_desk.proofs.history.first_law.Goals as goal

pub returns : goal.returns
returns c = at_first

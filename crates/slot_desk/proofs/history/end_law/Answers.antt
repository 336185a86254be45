use Rattle.slot_desk.proofs.HistoryLaw.{at_end}
use Rattle.slot_desk.proofs.history.end_law.Goals as goal

pub returns : goal.returns
returns c = at_end

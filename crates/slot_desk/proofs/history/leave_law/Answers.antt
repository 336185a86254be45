use Rattle.slot_desk.proofs.HistoryLaw.{at_leave}
use Rattle.slot_desk.proofs.history.leave_law.Goals as goal

pub returns : goal.returns
returns c = at_leave

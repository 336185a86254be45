use Rattle.slot_desk.proofs.HistoryLaw.{at_create}
use Rattle.slot_desk.proofs.history.create_law.Goals as goal

pub returns : goal.returns
returns c = at_create

use Rattle.slot_desk.proofs.HistoryLaw.{at_era}
use Rattle.slot_desk.proofs.history.era_law.Goals as goal

pub returns : goal.returns
returns c = at_era

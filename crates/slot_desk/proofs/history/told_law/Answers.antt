use Rattle.slot_desk.proofs.HistoryLaw.{clock_begun, clock_joined}
use Rattle.slot_desk.proofs.history.told_law.Goals as goal

pub returns-clause-begun : goal.returns-clause-begun
returns-clause-begun c = clock_begun

pub returns-clause-joined : goal.returns-clause-joined
returns-clause-joined c = clock_joined

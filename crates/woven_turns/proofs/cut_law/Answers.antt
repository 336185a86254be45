use Rattle.shared_table.proofs.PastLaws.{earlier}
use Rattle.woven_turns.proofs.Cutting.{cut}
use Rattle.woven_turns.proofs.cut_law.Goals as goal

pub returns-clause-lawful : goal.returns-clause-lawful
returns-clause-lawful c = earlier

pub returns-clause-cut : goal.returns-clause-cut
returns-clause-cut c = cut

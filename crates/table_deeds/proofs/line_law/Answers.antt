use Rattle.table_deeds.proofs.Lines.{lines_up, all_left}
use Rattle.table_deeds.proofs.line_law.Goals as goal

pub returns-clause-order : goal.returns-clause-order
returns-clause-order c = lines_up

pub returns-clause-left : goal.returns-clause-left
returns-clause-left c = all_left

use Rattle.part_workers.proofs.Taking.{taken, left}
use Rattle.part_workers.proofs.laws.slots_law.Goals as goal

pub returns-clause-taken : goal.returns-clause-taken
returns-clause-taken c = taken

pub returns-clause-left : goal.returns-clause-left
returns-clause-left c = left

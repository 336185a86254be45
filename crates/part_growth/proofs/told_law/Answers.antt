use Rattle.part_growth.proofs.Alone.{told_local, told_puts, told_nothing}
use Rattle.part_growth.proofs.told_law.Goals as goal

pub returns-clause-local : goal.returns-clause-local
returns-clause-local c = told_local

pub returns-clause-puts : goal.returns-clause-puts
returns-clause-puts c = told_puts

pub returns-clause-silent : goal.returns-clause-silent
returns-clause-silent c = told_nothing

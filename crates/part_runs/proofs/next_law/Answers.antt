use Rattle.std.proofs.Common.{[]}
use Rattle.part_runs.proofs.Next.{no_rounds, next_rounds, later_rounds, dues_then, told_then}
use Rattle.part_runs.proofs.next_law.Goals as goal

pub returns-clause-first : goal.returns-clause-first
returns-clause-first c = no_rounds

pub returns-clause-next : goal.returns-clause-next
returns-clause-next c = next_rounds

pub returns-clause-between : goal.returns-clause-between
returns-clause-between c = later_rounds

pub returns-clause-dues : goal.returns-clause-dues
returns-clause-dues c limits m rs r = dues_then limits limits.steps m rs r

pub returns-clause-told : goal.returns-clause-told
returns-clause-told c file limits rs ts r x = told_then file limits rs ts r x []

use Rattle.part_runs.proofs.Awaits.{round_awaits, told_awaits}
use Rattle.part_runs.proofs.awaits_law.Goals as goal

pub returns-clause-collected : goal.returns-clause-collected
returns-clause-collected c = round_awaits

pub returns-clause-told : goal.returns-clause-told
returns-clause-told c = told_awaits

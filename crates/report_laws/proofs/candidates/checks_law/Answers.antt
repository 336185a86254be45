use Rattle.report_laws.proofs.CheckRaces.{race_at, next_check, same_races}
use Rattle.report_laws.proofs.candidates.checks_law.Goals as goal

pub returns-clause-cell : goal.returns-clause-cell
returns-clause-cell c = race_at

pub returns-clause-next : goal.returns-clause-next
returns-clause-next c = next_check

pub returns-clause-same : goal.returns-clause-same
returns-clause-same c = same_races

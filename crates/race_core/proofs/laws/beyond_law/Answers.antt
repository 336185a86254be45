use Rattle.race_core.proofs.BeyondLaws.{within_first, within_next, within_push}
use Rattle.race_core.proofs.laws.beyond_law.Goals as goal

pub returns-clause-first : goal.returns-clause-first
returns-clause-first c = within_first

pub returns-clause-step : goal.returns-clause-step
returns-clause-step c = within_next

pub returns-clause-push : goal.returns-clause-push
returns-clause-push c = within_push

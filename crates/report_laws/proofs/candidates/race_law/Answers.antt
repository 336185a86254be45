use Rattle.report_laws.proofs.CandidateSteps.{has_candidate, no_candidate, race_awaited, none_awaited}
use Rattle.report_laws.proofs.candidates.race_law.Goals as goal

pub returns-clause-candidate : goal.returns-clause-candidate
returns-clause-candidate c = has_candidate

pub returns-clause-no_candidate : goal.returns-clause-no_candidate
returns-clause-no_candidate c = no_candidate

pub returns-clause-awaited : goal.returns-clause-awaited
returns-clause-awaited c = race_awaited

pub returns-clause-unawaited : goal.returns-clause-unawaited
returns-clause-unawaited c = none_awaited

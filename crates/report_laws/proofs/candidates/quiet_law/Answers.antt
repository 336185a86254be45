use Rattle.report_laws.proofs.CandidateSteps.{quiet_awaits, quiet_finds}
use Rattle.report_laws.proofs.candidates.quiet_law.Goals as goal

pub returns-clause-awaits : goal.returns-clause-awaits
returns-clause-awaits c = quiet_awaits

pub returns-clause-finds : goal.returns-clause-finds
returns-clause-finds c = quiet_finds

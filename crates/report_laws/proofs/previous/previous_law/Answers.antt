use Rattle.report_laws.proofs.PreviousLaw.{has_held, stands_in_trace, report_told}
use Rattle.report_laws.proofs.previous.previous_law.Goals as goal

pub returns-clause-held : goal.returns-clause-held
returns-clause-held c = has_held

pub returns-clause-stands : goal.returns-clause-stands
returns-clause-stands c = stands_in_trace

pub returns-clause-report : goal.returns-clause-report
returns-clause-report c = report_told

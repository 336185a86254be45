use Rattle.partial_runs.proofs.PutLaw.{cut_in_output, cut_in_report, cut_in_summary, stops}
use Rattle.partial_runs.proofs.puts.cut_law.Goals as goal

pub returns-clause-output : goal.returns-clause-output
returns-clause-output c = cut_in_output

pub returns-clause-report : goal.returns-clause-report
returns-clause-report c = cut_in_report

pub returns-clause-summary : goal.returns-clause-summary
returns-clause-summary c = cut_in_summary

pub returns-clause-memory : goal.returns-clause-memory
returns-clause-memory c = stops

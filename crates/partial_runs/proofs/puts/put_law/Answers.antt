use Rattle.partial_runs.proofs.PutLaw.{put_nothing, put_output, put_report, put_summary}
use Rattle.partial_runs.proofs.puts.put_law.Goals as goal

pub returns-clause-nothing : goal.returns-clause-nothing
returns-clause-nothing c = put_nothing

pub returns-clause-output : goal.returns-clause-output
returns-clause-output c = put_output

pub returns-clause-report : goal.returns-clause-report
returns-clause-report c = put_report

pub returns-clause-summary : goal.returns-clause-summary
returns-clause-summary c = put_summary

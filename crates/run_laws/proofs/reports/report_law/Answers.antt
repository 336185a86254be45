use Rattle.run_laws.proofs.ReportLaw.{told}
use Rattle.run_laws.proofs.UnorderedLaw.{not_earlier}
use Rattle.run_laws.proofs.reports.report_law.Goals as goal

pub returns-clause-told : goal.returns-clause-told
returns-clause-told c = told

pub returns-clause-not_earlier : goal.returns-clause-not_earlier
returns-clause-not_earlier c = λ limits granule_of needs_slot entries few some most notes checks stores loads rise a d w k x first. not_earlier limits granule_of needs_slot entries few some most notes checks stores loads a d w k x first rise

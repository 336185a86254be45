use Rattle.run_laws.proofs.FoundReports.{some_kept}
use Rattle.run_laws.proofs.OneReport.{one_kept}
use Rattle.run_laws.proofs.reports.reports_law.Goals as goal

pub returns-clause-some_list : goal.returns-clause-some_list
returns-clause-some_list c = λ limits granule_of address_of needs_slot entries few some most notes checks stores loads meets. some_kept limits granule_of needs_slot entries few some most notes checks stores loads address_of meets

pub returns-clause-one_list : goal.returns-clause-one_list
returns-clause-one_list c = one_kept

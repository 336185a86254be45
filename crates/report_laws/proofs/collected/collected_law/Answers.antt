use Rattle.report_laws.proofs.CollectedLaw.{collected}
use Rattle.report_laws.proofs.collected.collected_law.Goals as goal

pub returns : goal.returns
returns c = collected

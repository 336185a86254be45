use Rattle.run_laws.proofs.EraLaw.{entry_era}
use Rattle.run_laws.proofs.order.era_law.Goals as goal

pub returns : goal.returns
returns c = entry_era

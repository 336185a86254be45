use Rattle.run_laws.proofs.LastLoads.{last_loads}
use Rattle.run_laws.proofs.loads.last_store_law.Goals as goal

pub returns : goal.returns
returns c = last_loads

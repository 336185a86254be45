use Rattle.machine_laws.proofs.DeskLaw.{live_is, full_is}
use Rattle.machine_laws.proofs.desks.full_law.Goals as goal

pub returns-clause-living : goal.returns-clause-living
returns-clause-living c = live_is

pub returns-clause-full : goal.returns-clause-full
returns-clause-full c = full_is

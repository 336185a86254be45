use Rattle.report_laws.proofs.AwaitedLaw.{owners}
use Rattle.report_laws.proofs.OwnedLabels.{owner, slot, own_era, one_thread}
use Rattle.report_laws.proofs.previous.owner_law.Goals as goal

pub returns-clause-owner : goal.returns-clause-owner
returns-clause-owner c = owner

pub returns-clause-slot : goal.returns-clause-slot
returns-clause-slot c = slot

pub returns-clause-era : goal.returns-clause-era
returns-clause-era c = own_era

pub returns-clause-one_thread : goal.returns-clause-one_thread
returns-clause-one_thread c = one_thread

pub returns-clause-awaited : goal.returns-clause-awaited
returns-clause-awaited c = owners

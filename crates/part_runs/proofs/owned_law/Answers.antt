use Rattle.part_runs.proofs.Owned.{owned, sought}
use Rattle.part_runs.proofs.owned_law.Goals as goal

pub returns-clause-owners : goal.returns-clause-owners
returns-clause-owners c = owned

pub returns-clause-restorable : goal.returns-clause-restorable
returns-clause-restorable c = sought

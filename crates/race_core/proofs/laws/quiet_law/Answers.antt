use Rattle.race_core.proofs.StillLaws.{nothing, leave}
use Rattle.race_core.proofs.laws.quiet_law.Goals as goal

pub returns-clause-nothing : goal.returns-clause-nothing
returns-clause-nothing c = nothing

pub returns-clause-leave : goal.returns-clause-leave
returns-clause-leave c = leave

use Rattle.suppress_rules.proofs.FrameLaws.{left_of_found, left_of_unfound}
use Rattle.suppress_rules.proofs.rules.unmet_by.Goals as goal

pub returns-in-Some : goal.returns-in-Some
returns-in-Some c = left_of_found _ _ _ _ c.position_met.ensures c.in-Some.is

pub returns-in-None : goal.returns-in-None
returns-in-None c = left_of_unfound _ _ _ c.position_met.ensures c.in-None.is

use Rattle.part_races.proofs.Growing.{one_more_event, one_more_made, one_more_gathered, gathered_there}
use Rattle.part_races.proofs.grows_law.Goals as goal

pub returns-clause-events : goal.returns-clause-events
returns-clause-events c = one_more_event

pub returns-clause-made : goal.returns-clause-made
returns-clause-made c = one_more_made

pub returns-clause-gathered : goal.returns-clause-gathered
returns-clause-gathered c = one_more_gathered

pub returns-clause-placed : goal.returns-clause-placed
returns-clause-placed c = gathered_there

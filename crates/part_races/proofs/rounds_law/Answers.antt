use Rattle.part_races.proofs.More.{one_more_round, none_awaits}
use Rattle.part_races.proofs.rounds_law.Goals as goal

pub returns-clause-more : goal.returns-clause-more
returns-clause-more c = one_more_round

pub returns-clause-none : goal.returns-clause-none
returns-clause-none c = none_awaits

use Rattle.race_core.proofs.EventLaws.{taking, still}
use Rattle.race_core.proofs.laws.event_law.Goals as goal

pub returns-clause-taking : goal.returns-clause-taking
returns-clause-taking c = λ limits h m t w e clock at. taking limits h m t w at e clock

pub returns-clause-still : goal.returns-clause-still
returns-clause-still c = λ limits h m t w e at. still limits h m t w at e

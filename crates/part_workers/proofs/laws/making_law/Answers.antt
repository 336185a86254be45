use Rattle.part_workers.proofs.Making.{made_alone, made_at}
use Rattle.part_workers.proofs.laws.making_law.Goals as goal

pub returns-clause-gathered : goal.returns-clause-gathered
returns-clause-gathered c file limits post before log new h asked left w v given clock r p q owed spent me mine a asks may paid old_is new_is x =
    made_alone file limits post before log new h asked left w v given clock r p q owed spent a asks may paid me mine old_is new_is x

pub returns-clause-at_object : goal.returns-clause-at_object
returns-clause-at_object c file limits post before log new h asked left w v given clock r p q owed spent k a asks may paid below x =
    made_at file limits post before log new h asked left w v given clock r p q owed spent a asks may paid k below x

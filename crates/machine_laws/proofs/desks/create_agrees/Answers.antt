use Rattle.machine_laws.proofs.DeskLaw.{create_answer, create_after}
use Rattle.machine_laws.proofs.desks.create_agrees.Goals as goal

pub returns-clause-answer : goal.returns-clause-answer
returns-clause-answer c = create_answer

pub returns-clause-after : goal.returns-clause-after
returns-clause-after c = create_after

use Rattle.turn_laws.proofs.StepsLaw.{made_next, needs_next, state_next}
use Rattle.turn_laws.proofs.steps.instruction_law.Goals as goal

pub returns-clause-made : goal.returns-clause-made
returns-clause-made g c = made_next

pub returns-clause-needs : goal.returns-clause-needs
returns-clause-needs g c = needs_next

pub returns-clause-state : goal.returns-clause-state
returns-clause-state g c = state_next

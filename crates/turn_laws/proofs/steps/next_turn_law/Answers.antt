use Rattle.turn_laws.proofs.StepsLaw.{state_after_turn, first_goes_on, turn_goes_on, rounds_after, eras_after}
use Rattle.turn_laws.proofs.steps.next_turn_law.Goals as goal

pub returns-clause-state : goal.returns-clause-state
returns-clause-state g c = state_after_turn

pub returns-clause-first : goal.returns-clause-first
returns-clause-first g c = first_goes_on

pub returns-clause-goes_on : goal.returns-clause-goes_on
returns-clause-goes_on g c = turn_goes_on

pub returns-clause-rounds : goal.returns-clause-rounds
returns-clause-rounds g c = rounds_after

pub returns-clause-eras : goal.returns-clause-eras
returns-clause-eras g c = eras_after

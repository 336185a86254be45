use Rattle.std.proofs.Common.{◌+◌, ap, ◌∙◌}
use Rattle.run_laws.specs.Rounds.{steps_in, steps_by}
use Rattle.turn_laws.specs.Turns.{entries_of}
use Rattle.turn_laws.proofs.PartLaw.{steps_more, steps_by_more, turn_steps, turn_steps_by, turn_in_round}
use Rattle.turn_laws.proofs.steps.part_law.Goals as goal

pub returns-clause-steps : goal.returns-clause-steps
returns-clause-steps c = λ part n turn. steps_more part (entries_of n turn) ∙ ap (λ k. steps_in part + k) (turn_steps n turn)

pub returns-clause-steps_of_thread : goal.returns-clause-steps_of_thread
returns-clause-steps_of_thread c = λ part n turn. steps_by_more turn.tid part (entries_of n turn) ∙ ap (λ k. steps_by turn.tid part + k) (turn_steps_by n turn)

pub returns-clause-in_round : goal.returns-clause-in_round
returns-clause-in_round c = λ p ds n turn r e d. turn_in_round n turn p ds r e d

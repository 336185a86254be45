use Rattle.std.proofs.Common.{◌∙◌, sym, ap, arith}
use Rattle.detector.specs.Detected.{Detected}
use Rattle.thread_turns.proofs.EndLaws.{begins_of, runs_of, may_leave, few_before, takes, takes_none, new_some, new_none}
use Rattle.thread_turns.proofs.watched.WatchedMachine.take_turn.Goals as goal
use Rattle.thread_turns.proofs.watched.WatchedMachine.take_turn.Goals.{then-is_some, else-is_some}

pub run_part-requires-clause-turn : goal.run_part-requires-clause-turn
run_part-requires-clause-turn c = begins_of _ _ _ _ _ _ _ _ (record { alive = c.requires.lives; following = c.requires.following; goes_on = c.requires.goes_on; room = c.requires.room }) c.clear.ensures c.resume.ensures

pub leave-requires-clause-watched : goal.leave-requires-clause-watched
leave-requires-clause-watched c = (may_leave _ _ _ _ _ _ _ _ _ (record { alive = c.requires.lives; following = c.requires.following; goes_on = c.requires.goes_on; room = c.requires.room }) (runs_of _ _ _ _ _ _ _ _ _ c.clear.ensures c.resume.ensures c.in_ok-starved.ensures) (sym c.is_some.ensures ∙ c.if-is_some.true)).watched

pub leave-requires-clause-live : goal.leave-requires-clause-live
leave-requires-clause-live c = (may_leave _ _ _ _ _ _ _ _ _ (record { alive = c.requires.lives; following = c.requires.following; goes_on = c.requires.goes_on; room = c.requires.room }) (runs_of _ _ _ _ _ _ _ _ _ c.clear.ensures c.resume.ensures c.in_ok-starved.ensures) (sym c.is_some.ensures ∙ c.if-is_some.true)).live

pub leave-requires-clause-slots : goal.leave-requires-clause-slots
leave-requires-clause-slots c = (may_leave _ _ _ _ _ _ _ _ _ (record { alive = c.requires.lives; following = c.requires.following; goes_on = c.requires.goes_on; room = c.requires.room }) (runs_of _ _ _ _ _ _ _ _ _ c.clear.ensures c.resume.ensures c.in_ok-starved.ensures) (sym c.is_some.ensures ∙ c.if-is_some.true)).slots

pub leave-requires-clause-greatest : goal.leave-requires-clause-greatest
leave-requires-clause-greatest c = (may_leave _ _ _ _ _ _ _ _ _ (record { alive = c.requires.lives; following = c.requires.following; goes_on = c.requires.goes_on; room = c.requires.room }) (runs_of _ _ _ _ _ _ _ _ _ c.clear.ensures c.resume.ensures c.in_ok-starved.ensures) (sym c.is_some.ensures ∙ c.if-is_some.true)).greatest

pub push_turn-requires : goal.push_turn-requires
push_turn-requires c = few_before _ _ _ _ _ _ (record { alive = c.requires.lives; following = c.requires.following; goes_on = c.requires.goes_on; room = c.requires.room })

pub returns-in_ok-push_turn-clause-turn : goal.returns-in_ok-push_turn-clause-turn
returns-in_ok-push_turn-clause-turn c =
    takes _ _ _ _ _ _ _ _ _ _ _ _ (record { alive = c.requires.lives; following = c.requires.following; goes_on = c.requires.goes_on; room = c.requires.room }) (runs_of _ _ _ _ _ _ _ _ _ c.clear.ensures c.resume.ensures c.in_ok-starved.ensures) c.if-steps-gt0.true
    (elim c.if-is_some.branch [
      | then-is_some w ↦ new_some _ _ _ _ _ (sym c.is_some.ensures ∙ w.if-is_some.true) w.self-is w.leave.ensures
      | else-is_some w ↦ new_none _ _ _ _ (sym c.is_some.ensures ∙ w.if-is_some.false) w.self-is
    ])
    (c.era-era.ensures ∙ ap (λ (d : Detected). d.era) c.resume.ensures) c.in_ok-push_turn.ensures.ok

pub returns-else-steps-gt0-clause-turn : goal.returns-else-steps-gt0-clause-turn
returns-else-steps-gt0-clause-turn c = takes_none _ _ _ _ _ _ _ _ _ (record { alive = c.requires.lives; following = c.requires.following; goes_on = c.requires.goes_on; room = c.requires.room }) (runs_of _ _ _ _ _ _ _ _ _ c.clear.ensures c.resume.ensures c.in_ok-starved.ensures) (let z = c.if-steps-gt0.false in omega arith)

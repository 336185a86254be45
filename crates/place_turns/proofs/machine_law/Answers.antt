use Rattle.place_turns.specs.Wholes.{first_whole, first_state}
use Rattle.place_turns.proofs.Calls.{state_along, told_along, may_along}
use Rattle.place_turns.proofs.First.{first_is}
use Rattle.place_turns.proofs.machine_law.Goals as goal

pub returns-clause-may : goal.returns-clause-may
returns-clause-may c file harts g m cs ok h placed = may_along file harts ok g m cs h placed

pub returns-clause-state : goal.returns-clause-state
returns-clause-state c file harts cs ok placed =
    let h = first_is file harts in
    state_along file harts ok (first_whole file harts) (first_state file) cs h (may_along file harts ok (first_whole file harts) (first_state file) cs h placed)

pub returns-clause-told : goal.returns-clause-told
returns-clause-told c file harts cs ok placed =
    let h = first_is file harts in
    told_along file harts ok (first_whole file harts) (first_state file) cs h (may_along file harts ok (first_whole file harts) (first_state file) cs h placed)

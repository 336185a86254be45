use Rattle.place_turns.proofs.Calls.{state_along}
use Rattle.place_turns.proofs.state_law.Goals as goal

pub returns : goal.returns
returns c file harts g m cs ok h may = state_along file harts ok g m cs h may

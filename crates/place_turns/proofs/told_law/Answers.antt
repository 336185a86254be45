use Rattle.place_turns.proofs.Calls.{told_along}
use Rattle.place_turns.proofs.told_law.Goals as goal

pub returns : goal.returns
returns c file harts g m cs ok h may = told_along file harts ok g m cs h may

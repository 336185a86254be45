use Rattle.place_turns.proofs.Calls.{object_is}
use Rattle.place_turns.proofs.object_law.Goals as goal

pub returns : goal.returns
returns c file harts g m t x ok h is = object_is file harts ok g m h t x is

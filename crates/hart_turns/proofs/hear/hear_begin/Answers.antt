use Rattle.std.proofs.Common.{refl, ap}
use Rattle.hart_turns.specs.Hearing.{at_rest}
use Rattle.hart_turns.proofs.hear.hear_begin.Goals as goal

pub returns : goal.returns
returns c = record { unspent = refl; watcher = λ set desk. ap at_rest (c.begin.ensures set desk) }

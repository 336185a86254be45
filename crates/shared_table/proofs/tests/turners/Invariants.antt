use Rattle.std.proofs.Common.{◌≡◌, ◌<◌, vec_len, All}
use Rattle.shared_table.proofs.tests.turners.Given as goal

abbrev pub invariant-loop-cell : goal.invariant-loop-cell
invariant-loop-cell l = All (λ w. w.cell < 4) l.workers.items

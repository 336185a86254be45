use Rattle.symbol_lines.proofs.Ending.{Finds}
use Rattle.symbol_lines.proofs.name_table.name_ends.Given as goal

abbrev pub invariant-loop-offset : goal.invariant-loop-offset
invariant-loop-offset l = Finds l.strings l.ends.items l.offset l.boundary

abbrev pub decreases-loop-offset : goal.decreases-loop-offset
decreases-loop-offset l = l.offset

use Rattle.std.proofs.Common.{◌+◌, ◌-◌, length}
use Rattle.symbol_lines.proofs.Tables.{Merges}
use Rattle.symbol_lines.proofs.spans.merge.Given as goal

abbrev pub invariant-loop-i : goal.invariant-loop-i
invariant-loop-i l = Merges l.first l.second l.steps.items l.i l.j l.place l.first_owner l.second_owner

abbrev pub decreases-loop-i : goal.decreases-loop-i
decreases-loop-i l = length l.first - l.i + (length l.second - l.j)

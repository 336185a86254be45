use Rattle.std.proofs.Common.{◌≡◌}
use Rattle.trace_parts.proofs.RestoreLaws.{told_left, told_in}
use Rattle.trace_parts.proofs.ring.Ring.restore.Given as goal

-- what is told of the events that are left is what is told of all
abbrev pub invariant-loop-i : goal.invariant-loop-i
invariant-loop-i l =
    told_left l.sought.label l.sought.granule_address l.sought.word l.standing.label l.i l.self ≡ told_in l.sought.label l.sought.granule_address l.sought.word l.self

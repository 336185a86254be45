use Rattle.std.proofs.Common.{◌≡◌, ◌≤◌, ◌+◌, ◌-◌, ◌++◌, length, take, vec_len, vec_capacity}
use Rattle.run_record.specs.Marks.{renumbered}
use Rattle.run_record.proofs.rest.put_marks.Given as goal

-- as many as were gone through are appended, and there is room for the others
abbrev pub invariant-loop-mark : goal.invariant-loop-mark
invariant-loop-mark g l =
    (l.marks.items ≡ l.initial.marks.items ++ renumbered l.from l.to (take l.mark-index l.more))
    × (vec_len l.marks + (length l.more - l.mark-index) ≤ vec_capacity l.marks)

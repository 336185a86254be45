use Rattle.std.proofs.Common.{◌≡◌, ◌++◌, take, drop}
use Rattle.run_record.specs.Marks.{marks_before, marks_from}
use Rattle.run_record.proofs.cut.count_before.Given as goal

-- all marks so far are before n
abbrev pub invariant-loop-count : goal.invariant-loop-count
invariant-loop-count g l =
    (take l.count l.marks ++ marks_before l.n (drop l.count l.marks) ≡ marks_before l.n l.marks)
    × (marks_from l.n (drop l.count l.marks) ≡ marks_from l.n l.marks)

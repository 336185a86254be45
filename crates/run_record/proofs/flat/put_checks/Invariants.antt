use Rattle.std.proofs.Common.{◌≡◌, ◌≤◌, ◌+◌, ◌-◌, ◌++◌, length, take, vec_len, vec_capacity}
use Rattle.run_record.specs.Marks.{AreUsed}
use Rattle.run_record.specs.Flat.{checks_of}
use Rattle.run_record.proofs.flat.put_checks.Given as goal

-- as many as were gone through are appended, and there is room for the others
abbrev pub invariant-loop-check : goal.invariant-loop-check
invariant-loop-check l =
    (checks_of 0 l.checks.items l.words.items ≡ checks_of 0 l.initial.checks.items l.initial.words.items ++ take l.check-index l.more)
    × AreUsed 0 (length l.checks.items) l.words.items
    × (vec_len l.checks ≡ vec_len l.initial.checks + l.check-index)
    × (vec_len l.checks + (length l.more - l.check-index) ≤ vec_capacity l.checks)
    × (vec_len l.words + (length l.more - l.check-index) ≤ vec_capacity l.words)
    × (vec_len l.words ≤ vec_len l.initial.words + l.check-index)
    × (vec_capacity l.initial.checks ≤ vec_capacity l.checks)
    × (vec_capacity l.initial.words ≤ vec_capacity l.words)

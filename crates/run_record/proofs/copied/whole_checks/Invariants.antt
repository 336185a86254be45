use Rattle.std.proofs.Common.{◌≡◌, ◌++◌, drop}
use Rattle.run_record.specs.Flat.{checks_of}
use Rattle.run_record.proofs.copied.whole_checks.Given as goal

-- the checks so far, and those that are left
abbrev pub invariant-loop-n : goal.invariant-loop-n
invariant-loop-n l = l.whole.items ++ checks_of l.n (drop l.n l.checks) l.rest ≡ checks_of 0 l.checks l.words

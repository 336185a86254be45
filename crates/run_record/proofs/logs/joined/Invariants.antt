use Rattle.std.proofs.Common.{◌≡◌, take}
use Rattle.run_record.proofs.logs.joined.Given as goal

abbrev pub invariant-loop-entry : goal.invariant-loop-entry
invariant-loop-entry l = l.joined ≡ take l.entry-index l.entries

use Rattle.std.proofs.Common.{take}
use Rattle.run_record.specs.Merging.{AreRestsOf}
use Rattle.run_record.proofs.merged.rests_of.Given as goal

abbrev pub invariant-loop-log : goal.invariant-loop-log
invariant-loop-log l = AreRestsOf (take l.log-index l.logs) l.rests.items

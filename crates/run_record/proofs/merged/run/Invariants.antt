use Rattle.std.proofs.Common.{take}
use Rattle.std.specs.Prelude.{All}
use Rattle.run_record.specs.declared.flat.Row.{Row}
use Rattle.run_record.specs.Merging.{IsUpto}
use Rattle.run_record.proofs.merged.run.Given as goal

abbrev pub invariant-loop-n : goal.invariant-loop-n
invariant-loop-n l = All (λ (r : Row). IsUpto r.head l.limit) (take l.n l.rows)

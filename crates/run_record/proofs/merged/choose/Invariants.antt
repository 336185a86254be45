use Rattle.run_record.specs.Merging.{IsChosenBelow}
use Rattle.run_record.proofs.merged.choose.Given as goal

abbrev pub invariant-loop-n : goal.invariant-loop-n
invariant-loop-n l = IsChosenBelow l.rests l.n l.choice

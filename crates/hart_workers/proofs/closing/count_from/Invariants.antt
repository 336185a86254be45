use Rattle.std.proofs.Common.{◌≡◌, ◌+◌, max, drop}
use Rattle.run_laws.specs.Rounds.{steps_in}
use Rattle.table_deeds.specs.Rounds.{greatest_in}
use Rattle.hart_workers.proofs.closing.count_from.Given as goal

-- with those that are left it is all
abbrev pub invariant-loop-n : goal.invariant-loop-n
invariant-loop-n l = record {
  base : max l.base (greatest_in (drop l.n l.entries)) ≡ max l.fn.base (greatest_in (drop l.fn.from l.entries));
  steps : l.steps + steps_in (drop l.n l.entries) ≡ steps_in (drop l.fn.from l.entries);
}

use Rattle.std.proofs.Common.{◌≡◌, ◌-◌, ◌++◌}
use Rattle.std.specs.Prelude.{filter}
use Rattle.bare_machine.specs.World.{lives}
use Rattle.run_laws.specs.Numbers.{up_from}
use Rattle.step_engine.proofs.turns.add_live.Given as goal

-- the live ones among the numbers so far were added
abbrev pub invariant-loop-tid : goal.invariant-loop-tid
invariant-loop-tid l = l.threads.items ≡ l.initial.threads.items ++ filter (lives l.machine) (up_from l.from (l.tid - l.from))

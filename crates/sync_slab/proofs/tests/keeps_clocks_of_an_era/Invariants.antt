use Rattle.std.proofs.Common.{◌≡◌}
use Rattle.sync_slab.proofs.tests.keeps_clocks_of_an_era.Given as goal

-- the clocks have two slots
abbrev pub invariant-loop-row : goal.invariant-loop-row
invariant-loop-row g l = l.set.slots ≡ 2

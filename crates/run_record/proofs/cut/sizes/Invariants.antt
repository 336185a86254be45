use Rattle.std.proofs.Common.{◌≡◌, ◌+◌, drop}
use Rattle.run_record.specs.Flat.{event_count, check_count}
use Rattle.run_record.proofs.cut.sizes.Given as goal

-- the sizes so far, and those of the rows that are left
abbrev pub invariant-loop-row : goal.invariant-loop-row
invariant-loop-row l =
    (l.events + event_count (drop l.row-index l.rows) ≡ event_count l.rows)
    × (l.checks + check_count (drop l.row-index l.rows) ≡ check_count l.rows)

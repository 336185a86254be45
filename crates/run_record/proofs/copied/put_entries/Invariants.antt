use Rattle.std.proofs.Common.{◌≡◌, ◌++◌, length, drop}
use Rattle.run_record.specs.Flat.{entries_of, event_count, check_count}
use Rattle.run_record.proofs.copied.put_entries.Given as goal

-- the entries so far, and those that are left
abbrev pub invariant-loop-n : goal.invariant-loop-n
invariant-loop-n l =
    (l.entries.items ++ entries_of l.n (drop l.n l.rows) l.notes l.events l.checks ≡ l.fn.entries.items
    ++ entries_of 0 l.rows l.fn.notes l.fn.events l.fn.checks)
    × (event_count (drop l.n l.rows) ≡ length l.events)
    × (check_count (drop l.n l.rows) ≡ length l.checks)

use Rattle.std.proofs.Common.{◌≡◌, ◌<◌, ◌^◌, ◌++◌, length, drop, map}
use Rattle.std.specs.Prelude.{All}
use Rattle.run_record.specs.declared.walk.EntryEvents.{EntryEvents}
use Rattle.run_record.specs.Flat.{event_count}
use Rattle.run_record.specs.Walk.{thread_events, rows_events}
use Rattle.run_record.proofs.walk.row_events.Given as goal

-- the rows so far, and those that are left
abbrev pub invariant-loop-row : goal.invariant-loop-row
invariant-loop-row l =
    (map thread_events l.walk.items ++ rows_events (drop l.row-index l.rows) l.events ≡ rows_events l.rows l.fn.events)
    × (event_count (drop l.row-index l.rows) ≡ length l.events)
    × All (λ (w : EntryEvents). length w.events.now < 2 ^ 32) l.walk.items

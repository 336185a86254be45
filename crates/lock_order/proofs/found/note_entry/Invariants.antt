use Rattle.std.proofs.Common.{ℕ, List, ◌++◌}
use Rattle.run_laws.specs.Moments.{Moment}
use Rattle.lock_order.specs.Found.{Follows}
use Rattle.lock_order.proofs.EdgeLaws.{some_moments}
use Rattle.lock_order.proofs.found.note_entry.Given as goal

abbrev pub invariant-loop-event : goal.invariant-loop-event
invariant-loop-event l =
    (h : List Moment) (i : ℕ) → Follows h l.initial.held.items l.initial.found → Follows (h ++ some_moments i l.entry l.event-index) l.held.items l.found

use Rattle.std.proofs.Common.{ℕ, List, ◌<◌}
use Rattle.std.specs.Prelude.{slice_index_or}
use Rattle.run_record.specs.declared.entry.Entry.{Entry}
use Rattle.run_laws.specs.Moments.{Item}
use Rattle.offline_audit.specs.declared.order.EventName.{EventName}
use Rattle.offline_audit.specs.Orders.{TellsOrder}
use Rattle.offline_audit.specs.Chains.{IsEvent, IsChain, ComesBefore}
use Rattle.offline_audit.proofs.earliest.first_unordered.Given as goal

-- all events so far happen before the named one
abbrev pub invariant-loop-other : goal.invariant-loop-other
invariant-loop-other l =
    (h : ℕ → Item) (entries : List Entry) → TellsOrder h entries l.order → IsChain h entries l.names → IsEvent h entries l.name →
    (k : ℕ) (d : EventName) → k < l.other-index → ComesBefore h entries (slice_index_or l.names k d) l.name

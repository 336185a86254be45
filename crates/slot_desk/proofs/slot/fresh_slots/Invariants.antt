use Rattle.std.proofs.Common.{◌≡◌, replicate}
use Rattle.slot_desk.specs.Desks.{fresh_slot}
use Rattle.slot_desk.proofs.slot.fresh_slots.Given as goal

abbrev pub invariant-loop-sid : goal.invariant-loop-sid
invariant-loop-sid l = l.made.items ≡ replicate l._sid (fresh_slot l.slots)

use Rattle.std.proofs.Common.{◌≡◌, ◌<◌, ◌≤◌, ℕ, length, get_or}
use Rattle.slot_desk.specs.Desks.{fresh_slot, no_slot}
use Rattle.slot_desk.proofs.slot.reset_slots.Given as goal

-- the slots before `sid` are reset, and the others are as they were
abbrev pub invariant-loop-sid : goal.invariant-loop-sid
invariant-loop-sid l =
    (length l.slots.items ≡ length l.fn.slots.items)
    × ((k : ℕ) → k < l.sid → get_or l.slots.items k no_slot ≡ fresh_slot (length l.fn.slots.items))
    × ((k : ℕ) → l.sid ≤ k → get_or l.slots.items k no_slot ≡ get_or l.fn.slots.items k no_slot)

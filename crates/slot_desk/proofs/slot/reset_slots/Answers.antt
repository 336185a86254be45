use Rattle.std.proofs.Common.{arith, length}
use Rattle.slot_desk.specs.Desks.{fresh_slot, no_slot}
use Rattle.slot_desk.proofs.DeskLists.{all_same}
use Rattle.slot_desk.proofs.slot.reset_slots.Goals as goal

pub returns : goal.returns
returns c =
    let n = length c.args.slots.now.items in
    all_same c.loop-sid.slots.items n (fresh_slot n) no_slot c.loop-sid.invariant.0 (λ k l. c.loop-sid.invariant.1 k (omega (arith, c.args.slots.now.ok.0)))

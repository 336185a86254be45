use Rattle.std.proofs.Common.{◌≡◌, ◌+◌, ◌≤◌, None}
use Rattle.turn_orders.specs.LineUp.{with_stamp}
use Rattle.shared_table.specs.Seats.{IsSeatOf, IsFree}
use Rattle.hart_turns.specs.Slots.{hand_of}
use Rattle.part_workers.specs.Shares.{IsMidway}
use Rattle.part_workers.proofs.share.make_share.Given as goal

-- the thread is midway, and each round of the loop makes at least one instruction
abbrev pub invariant-loop : goal.invariant-loop
invariant-loop g l = record {
  own : IsSeatOf l.shared l.seat;
  free : IsFree l.seat.me;
  number : l.seat.me.0.number ≡ l.initial.seat.me.0.number;
  midway : IsMidway l.image l.limits l.post l.share (with_stamp (hand_of l.initial.state None) l.initial.part.last) l.seat.me.0.log l.state l.part l.left;
  left : l.counter + l.left ≤ l.share;
}

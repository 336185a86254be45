use Rattle.std.proofs.Common.{◌≡◌, ◌≤◌, ◌++◌, map, length, vec_len, vec_capacity}
use Rattle.std.specs.Vec.Iter.{into_iter_items}
use Rattle.shared_table.specs.Seats.{IsOpener}
use Rattle.shared_table.specs.Rounds.{splits_from, worker_of, Grown, AreOpened}
use Rattle.shared_table.proofs.workers.open.Given as goal

abbrev pub invariant-loop-worker : goal.invariant-loop-worker
invariant-loop-worker g l = record {
  opener : IsOpener l.shared l.seat;
  own : l.seat.me.0.log ≡ l.initial.seat.me.0.log ++ splits_from (length l.initial.seat.me.0.logs) (length l.parts.items);
  logs : Grown (length l.parts.items) l.initial.seat.me.0 l.seat.me.0;
  room : vec_len l.fn.workers ≤ vec_capacity l.parts;
  left : map worker_of l.parts.items ++ into_iter_items l.worker-iterator ≡ l.fn.workers.items;
  parts : AreOpened l.shared (length l.initial.seat.me.0.logs) (map worker_of l.parts.items) l.parts.items;
}

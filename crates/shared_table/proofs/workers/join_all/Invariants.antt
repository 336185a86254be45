use Rattle.std.proofs.Common.{◌≡◌, ℕ, ◌+◌, ◌-◌, ◌<◌, ◌≤◌, ◌++◌, length, vec_len, vec_capacity, map, take, drop, Some, get_or}
use mathlib.Core.Option.{some}
use lib.ListN.{get_elem?}
use Rattle.std.specs.Vec.Iter.{into_iter_items}
use Rattle.shared_table.specs.declared.workers.Part.{Part}
use Rattle.shared_table.specs.Seats.{IsOpener}
use Rattle.shared_table.specs.Rounds.{joins_from, worker_of, log}
use Rattle.shared_table.proofs.workers.join_all.Given as goal

abbrev pub invariant-loop-part : goal.invariant-loop-part
invariant-loop-part g l =
    let m = length l.initial.seat.me.0.logs - vec_len l.fn.parts in record {
      opener : IsOpener l.shared l.seat;
      fewer : length l.workers.items ≤ length l.fn.parts.items;
      room : vec_len l.fn.parts ≤ vec_capacity l.workers;
      rest : into_iter_items l.part-iterator ≡ drop (length l.workers.items) l.fn.parts.items;
      workers : l.workers.items ≡ map worker_of (take (length l.workers.items) l.fn.parts.items);
      own : l.seat.me.0.log ≡ l.initial.seat.me.0.log ++ joins_from m (length l.workers.items);
      len : length l.seat.me.0.logs ≡ length l.initial.seat.me.0.logs;
      old : (i : ℕ) → i < m → get_elem? l.seat.me.0.logs i ≡ get_elem? l.initial.seat.me.0.logs i;
      done : (i : ℕ) (d : Part g.row.W.Denot) → i < length l.workers.items → get_elem? l.seat.me.0.logs (m + i) ≡ some (Some (log (get_or l.fn.parts.items i d)));
    }

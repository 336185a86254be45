use Rattle.std.proofs.Common.{◌≡◌, ℕ, ◌+◌, ◌<◌, ◌≤◌, get_or, vec_len, vec_capacity}
use Rattle.shared_table.proofs.closing.copy_words.Given as goal

abbrev pub invariant-loop-i : goal.invariant-loop-i
invariant-loop-i l = record {
  len : vec_len l.room ≡ l.i;
  room : l.cells ≤ vec_capacity l.room;
  values : (c : ℕ) → c < l.i → get_or l.room.items c 0 ≡ get_or (l.table.words.items) (520 + c) 0;
}

use Rattle.std.proofs.Common.{◌≡◌, ℕ, ◌*◌, ◌<◌, ◌≤◌, get_or, vec_len, vec_capacity, None}
use mathlib.Core.Option.{some}
use lib.ListN.{get_elem?}
use Rattle.shared_table.specs.Past.{Slot}
use Rattle.shared_table.specs.Rule.{word_place, slot_place}
use Rattle.shared_table.specs.Ends.{ends_as, stripe_in, Filled, AreEmpty}
use Rattle.shared_table.proofs.closing.take_stripes.Given as goal

abbrev pub invariant-loop-stripe : goal.invariant-loop-stripe
invariant-loop-stripe l = record {
  words : l.table.words ≡ l.initial.table.words;
  items : l.table.slots.items ≡ l.initial.table.slots.items;
  count : l.table.slots.len ≡ l.initial.table.slots.len;
  left : Filled (l.table.slots.filled) (4 * l.stripe) 260;
  gone : AreEmpty (l.table.slots.filled) (4 * l.stripe);
  len : vec_len l.room ≡ l.stripe;
  room : 64 ≤ vec_capacity l.room;
  values : (k : ℕ) (y : Slot) → k < l.stripe → get_elem? (l.initial.table.slots.items) (slot_place k) ≡ some y → get_or l.room.items k None ≡ stripe_in (ends_as (get_or (l.initial.table.words.items) (word_place k) 0) y);
}

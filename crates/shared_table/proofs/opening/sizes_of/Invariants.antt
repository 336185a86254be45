use Rattle.std.proofs.Common.{◌≡◌, ℕ, ◌<◌, length, get_or, vec_len, None}
use Rattle.shared_table.specs.Opening.{words_in}
use Rattle.shared_table.proofs.opening.sizes_of.Given as goal

abbrev pub invariant-loop-stripe : goal.invariant-loop-stripe
invariant-loop-stripe l = (vec_len l.sizes ≡ l.stripe-index) × ((k : ℕ) → k < l.stripe-index → get_or l.sizes.items k 0 ≡ length (words_in (get_or l.stripes k None)))

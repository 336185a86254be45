use Rattle.std.proofs.Common.{◌≡◌, vec_len}
use Rattle.shared_table.specs.Opening.{AreBlank}
use Rattle.shared_table.proofs.opening.blank_stripes.Given as goal

abbrev pub invariant-loop : goal.invariant-loop
invariant-loop l = (vec_len l.stripes ≡ l.counter) × AreBlank l.limits l.counter l.stripes.items

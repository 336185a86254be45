use Rattle.std.proofs.Common.{◌≡◌, take}
use Rattle.std.specs.List.{flat_map}
use Rattle.lock_order.specs.Texts.{cycle_lines}
use Rattle.lock_order.proofs.text.texts_of.Given as goal

abbrev pub invariant-loop-cycle : goal.invariant-loop-cycle
invariant-loop-cycle l = flat_map (λ t. t.items) l.texts.items ≡ flat_map (λ c. cycle_lines c.edges) (take l.cycle-index l.cycle-items)

use Rattle.std.proofs.Common.{◌≡◌, ◌++◌, codes, take, string_bytes}
use Rattle.std.specs.List.{flat_map}
use Rattle.report_text.specs.Texts.{address}
use Rattle.lock_order.specs.declared.edge.Edge.{Edge}
use Rattle.lock_order.proofs.cycle.write_addresses.Given as goal

abbrev pub invariant-loop-edge : goal.invariant-loop-edge
invariant-loop-edge l = string_bytes l.text ≡ string_bytes l.initial.text ++ flat_map (λ (e : Edge). codes " " ++ address e.from) (take l.edge-index l.edges)

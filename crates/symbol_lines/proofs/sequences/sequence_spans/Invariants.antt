use Rattle.std.proofs.Common.{◌≡◌, map, take}
use Rattle.symbol_lines.specs.KeptLines.{numbered}
use Rattle.symbol_lines.specs.MachineViews.{sequence_view}
use Rattle.symbol_lines.proofs.sequences.sequence_spans.Given as goal

abbrev pub invariant-loop-item : goal.invariant-loop-item
invariant-loop-item l = l.spans.items ≡ numbered 0 (map sequence_view (take l.item l.sequences))

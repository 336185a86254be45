use Rattle.std.proofs.Common.{◌≡◌, ◌≤◌, false, length}
use Rattle.symbol_lines.specs.Paths.{has_text}
use Rattle.symbol_lines.proofs.text_sections.ended_of.Given as goal

abbrev pub invariant-loop-ended : goal.invariant-loop-ended
invariant-loop-ended l = record { within : l.ended ≤ length l.bytes; none : has_text l.bytes l.ended ≡ false }

abbrev pub decreases-loop-ended : goal.decreases-loop-ended
decreases-loop-ended l = l.ended

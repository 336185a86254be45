use Rattle.std.proofs.Common.{◌≡◌, ◌+◌, ◌≤◌, length}
use Rattle.suppress_rules.specs.RuleFile as file
use Rattle.suppress_rules.proofs.rules.read_lines.Given as goal

abbrev pub invariant-loop-rest : goal.invariant-loop-rest
invariant-loop-rest l =
    (file.prepended l.rules (file.rules_from (l.number + 1) (file.lines_of l.rest)) ≡ file.rules_from 1 (file.lines_of l.fn.bytes))
    × (l.number + length l.rest ≤ length l.fn.bytes)

abbrev pub decreases-loop-rest : goal.decreases-loop-rest
decreases-loop-rest l = length l.rest

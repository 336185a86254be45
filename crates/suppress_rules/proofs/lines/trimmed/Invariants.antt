use Rattle.std.proofs.Common.{◌≡◌, length, reverse}
use Rattle.suppress_rules.specs.RuleFile as file
use Rattle.suppress_rules.proofs.lines.trimmed.Given as goal

abbrev pub invariant-loop-last : goal.invariant-loop-last
invariant-loop-last l = file.trimmed_start (reverse l.rest) ≡ file.trimmed_start (reverse l.initial.rest)

abbrev pub decreases-loop-last : goal.decreases-loop-last
decreases-loop-last l = length l.rest

use Rattle.std.proofs.Common.{◌≡◌, length}
use Rattle.suppress_rules.specs.RuleFile as file
use Rattle.suppress_rules.proofs.lines.trimmed_start.Given as goal

abbrev pub invariant-loop-first : goal.invariant-loop-first
invariant-loop-first l = file.trimmed_start l.rest ≡ file.trimmed_start l.initial.rest

abbrev pub decreases-loop-first : goal.decreases-loop-first
decreases-loop-first l = length l.rest

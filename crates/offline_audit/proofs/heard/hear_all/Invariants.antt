use Rattle.std.proofs.Common.{◌≡◌, ◌==◌, ℕ, if◌then◌else◌}
use Rattle.std.specs.List.{All}
use Rattle.offline_audit.specs.Heard.{known_of, steps_after, steps_of}
use Rattle.offline_audit.proofs.Entries.{greatest}
use Rattle.offline_audit.proofs.heard.hear_all.Given as goal

-- what is left to hear makes the steps whole
abbrev pub invariant-loop-other : goal.invariant-loop-other
invariant-loop-other l =
    ((u : ℕ) → (if u == l.tid then steps_of l.heard u else steps_after l.at (greatest (λ (x : ℕ). x) l.other-iterator u) (steps_of l.heard u))
    ≡ (if u == l.tid then steps_of l.initial.heard u else steps_after l.at (known_of l.clock u) (steps_of l.initial.heard u)))
    × All (λ (e : ℕ × ℕ). e.1 ≡ known_of l.clock e.0) l.other-iterator

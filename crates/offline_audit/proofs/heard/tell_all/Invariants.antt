use Rattle.std.proofs.Common.{◌≡◌, ◌==◌, ℕ, if◌then◌else◌, max}
use Rattle.offline_audit.specs.Heard.{known_of, latest, steps_of}
use Rattle.offline_audit.proofs.Entries.{greatest}
use Rattle.offline_audit.proofs.heard.tell_all.Given as goal

-- what is left to tell makes the clock whole
abbrev pub invariant-loop-other : goal.invariant-loop-other
invariant-loop-other l = (u : ℕ) →
    (if u == l.tid then known_of l.clock u else max (known_of l.clock u) (greatest latest l.other-iterator u))
    ≡ (if u == l.tid then known_of l.initial.clock u else max (known_of l.initial.clock u) (latest (steps_of l.heard u)))

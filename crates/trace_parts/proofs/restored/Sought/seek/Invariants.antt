use Rattle.std.proofs.Common.{◌≡◌, length}
use Rattle.trace_parts.specs.Part.{snapshot_of}
use Rattle.trace_parts.specs.Sought.{is_under}
use Rattle.trace_parts.proofs.SeekLaws.{SeeksOn}
use Rattle.trace_parts.proofs.restored.Sought.seek.Given as goal

-- what is still to be found and passed is what was at the beginning
abbrev pub invariant-loop-rest : goal.invariant-loop-rest
invariant-loop-rest l =
    SeeksOn l.self.label l.self.granule_address l.self.word l.previous l.rest (snapshot_of l.standing) l.fn.words (snapshot_of l.fn.standing) × (l.under ≡ is_under l.self.label l.standing.label)

abbrev pub decreases-loop-rest : goal.decreases-loop-rest
decreases-loop-rest l = length l.rest

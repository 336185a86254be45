use Rattle.std.proofs.Common.{ap, ◌∙◌}
use Rattle.trace_parts.specs.Snapshot.{Snapshot}
use Rattle.trace_parts.specs.Held.{HeldTrace, standing_of}
use Rattle.trace_parts.proofs.RingLaws.{standing-ring}
use Rattle.trace_parts.proofs.trace.Trace.locks.Goals as goal

pub returns : goal.returns
returns c =
    let now = standing-ring c.self.inside.ring c.self.invariant.0 c.self.invariant.1 ∙ ap (λ (t : HeldTrace). standing_of t.held) c.self.view_is in
    c.from_vec.ensures ∙ c.in_ok-locks.ensures.items ∙ c.deref.ensures.value ∙ ap (λ (s : Snapshot). s.locks) now

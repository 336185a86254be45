use Rattle.std.proofs.Common.{length, sym, ap, ◌∙◌}
use Rattle.std.proofs.lemmas.List.{length-reverse}
use Rattle.trace_parts.specs.Snapshot.{Snapshot}
use Rattle.trace_parts.specs.Held.{HeldTrace, standing_of}
use Rattle.trace_parts.proofs.RingLaws.{standing-ring}
use Rattle.trace_parts.proofs.trace.Trace.depth.Goals as goal

pub returns : goal.returns
returns c =
    let frames = c.self.inside.ring.standing.frames in
    let now = standing-ring c.self.inside.ring c.self.invariant.0 c.self.invariant.1 ∙ ap (λ (t : HeldTrace). standing_of t.held) c.self.view_is in
    c.len.ensures ∙ frames.ok.0 ∙ sym (length-reverse frames.items) ∙ ap (λ (s : Snapshot). length s.frames) now

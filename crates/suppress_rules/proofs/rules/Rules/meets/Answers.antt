use Rattle.suppress_rules.specs.Stacks.{is_met}
use Rattle.suppress_rules.proofs.FrameLaws.{first_past, none_past, left_of_both}
use Rattle.suppress_rules.proofs.rules.Rules.meets.Goals as goal

pub returns-then-left-rules : goal.returns-then-left-rules
returns-then-left-rules g c =
    let frame_of = g.F.Frames.frame_of c.args.frames.now in
    let left = left_of_both frame_of c.args.one.now c.args.other.now c.self.inside.rules _ c.unmet-left-2.result.now (rw c.as_slice-rules.ensures at c.unmet-left.ensures) c.unmet-left-2.ensures in
    rw (← c.self.view_is) (first_past (is_met frame_of c.args.one.now c.args.other.now) c.self.inside.rules _ left (rw c.as_slice-rules.ensures at c.if-left-rules.true))

pub returns-else-left-rules : goal.returns-else-left-rules
returns-else-left-rules g c =
    let frame_of = g.F.Frames.frame_of c.args.frames.now in
    let left = left_of_both frame_of c.args.one.now c.args.other.now c.self.inside.rules _ c.unmet-left-2.result.now (rw c.as_slice-rules.ensures at c.unmet-left.ensures) c.unmet-left-2.ensures in
    rw (← c.self.view_is) (none_past (is_met frame_of c.args.one.now c.args.other.now) c.self.inside.rules _ left (rw c.as_slice-rules.ensures at c.if-left-rules.false))

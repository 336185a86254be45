use Rattle.std.proofs.Common.{◌≡◌, take}
use Rattle.std.specs.List.{before_first}
use Rattle.suppress_rules.specs.FrameTests.{some_other_meets}
use Rattle.suppress_rules.proofs.rules.unmet_below.Given as goal

abbrev pub invariant-loop-place : goal.invariant-loop-place
invariant-loop-place g l = l.left ≡ before_first (some_other_meets (g.F.Frames.frame_of l.frames) (take l.place-index l.places)) l.rules

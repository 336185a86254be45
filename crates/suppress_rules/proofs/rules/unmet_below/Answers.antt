use Rattle.std.proofs.Common.{ap, ◌∙◌, arith}
use Rattle.std.proofs.lemmas.List.{take_all}
use Rattle.std.specs.List.{before_first}
use Rattle.suppress_rules.specs.FrameTests.{some_other_meets, told_by}
use Rattle.suppress_rules.proofs.FrameLaws.{left_of_none, left_of_next}
use Rattle.suppress_rules.proofs.rules.unmet_below.Goals as goal

pub loop-place-init : goal.loop-place-init
loop-place-init g c = left_of_none c.args.rules.now

pub loop-place-preserved : goal.loop-place-preserved
loop-place-preserved g c =
    let told = c.frame.ensures in
    left_of_next (g.F.Frames.frame_of c.args.frames.now) c.args.places.now c.loop-place.place-index (told_by c.frame.result) _ _ _
    c.loop-place-test.true (λ i. record { name = told.name i; file = told.file i; line = told.line i }) c.loop-place.invariant c.unmet_by-left.ensures

pub returns : goal.returns
returns g c =
    let all = take_all c.loop-place.place-index c.args.places.now (omega (arith, c.loop-place-test.false)) in
    c.loop-place.invariant ∙ ap (λ ps. before_first (some_other_meets (g.F.Frames.frame_of c.args.frames.now) ps) c.args.rules.now) all

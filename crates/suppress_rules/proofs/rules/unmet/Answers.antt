use Rattle.suppress_rules.specs.FrameTests.{told_by}
use Rattle.suppress_rules.proofs.FrameLaws.{left_of_empty, left_of_all}
use Rattle.suppress_rules.proofs.rules.unmet.Goals as goal

pub returns-in-Some : goal.returns-in-Some
returns-in-Some g c =
    let told = c.frame.ensures in
    left_of_all (g.F.Frames.frame_of c.args.frames.now) c.in-Some.top.now c.args.places.now c.in-Some.below.now (told_by c.frame.result) c.args.rules.now c.unmet_by.result.now c.unmet_below.result.now
    c.in-Some.ensures.cases.0 (λ i. record { name = told.name i; file = told.file i; line = told.line i }) c.unmet_by.ensures c.unmet_below.ensures

pub returns-in-None : goal.returns-in-None
returns-in-None g c = left_of_empty (g.F.Frames.frame_of c.args.frames.now) c.args.places.now c.args.rules.now c.in-None.ensures.cases

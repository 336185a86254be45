use Rattle.std.proofs.Common.{ap, ◌∙◌, is_some}
use Rattle.std.specs.List.{list_any}
use Rattle.suppress_rules.specs.Stacks.{is_met}
use Rattle.suppress_rules.proofs.MeetLaws.{position-is_some}
use Rattle.suppress_rules.proofs.rules.first_met.Goals as goal

pub returns-clause-met : goal.returns-clause-met
returns-clause-met g c =
    ap is_some c.meets.ensures
    ∙ position-is_some (is_met (g.F.Frames.frame_of c.args.frames.now) c.places_of.result.now c.places_of-2.result.now) c.args.rules.now
    ∙ (λ i. list_any (is_met (g.F.Frames.frame_of c.args.frames.now) (c.places_of.ensures i) (c.places_of-2.ensures i)) c.args.rules.now)

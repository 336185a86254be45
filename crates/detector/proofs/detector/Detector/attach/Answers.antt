use Rattle.std.proofs.Common.{ℕ, sym, subst}
use Rattle.hart_events.specs.Events.{FrontIsFree}
use Rattle.detector.specs.Detected.{Detected}
use Rattle.detector.proofs.detector.Detector.attach.Goals as goal

pub unreachable-requires : goal.unreachable-requires
unreachable-requires c =
    c.in-Refused.ensures.refused (subst (λ (d : Detected). FrontIsFree d.limits.epochs d.desk) (sym c.self.view_is) (subst (λ (g : ℕ). FrontIsFree g c.args.self.now.desk) c.requires.greatest c.requires.front))

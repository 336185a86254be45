use Rattle.std.proofs.Common.{None, ap, ◌∙◌}
use Rattle.run_record.specs.declared.event.Event.TheVariants.{Create}
use Rattle.detector.specs.Detected.{Detected, after_event}
use Rattle.detector.proofs.HearLaws.{after_call}
use Rattle.detector.proofs.detector.Detector.create.Goals as goal

pub returns-clause-new : goal.returns-clause-new
returns-clause-new c =
    let after = after_event c.args.self.now c.args.tid (Create c.args.child) in
    rw (c.in_ok-push.ensures.items, c.in_ok-made.ensures)
    (after_call _ _ _ _ _ (Create c.args.child) _ _ c.self.view_is c.requires.watched c.index_mut-watcher.ensures.value (c.create-heard.ensures.watcher None c.self.inside.objects) c.create-heard.ensures.desk
    ∙ ap (λ (d : Detected). after d.objects) c.self.view_is)

use Rattle.std.proofs.Common.{ap}
use Rattle.detector.specs.Detected.{Detected}
use Rattle.detector.proofs.ToldLaws.{owner_there, watched_owner, can_seek, tells}
use Rattle.detector.proofs.detector.Detector.previous.Goals as goal

pub find_owner-owner-requires : goal.find_owner-owner-requires
find_owner-owner-requires c = owner_there _ _ _ c.requires c.self.inside.desk (ap (λ (d : Detected). d.desk) c.self.view_is)

pub watcher-requires : goal.watcher-requires
watcher-requires c =
    watched_owner _ _ _ c.requires c.self.inside.desk c.find_owner-owner.result (ap (λ (d : Detected). d.desk) c.self.view_is) c.find_owner-owner.ensures

pub tell_previous-requires : goal.tell_previous-requires
tell_previous-requires c =
    can_seek _ _ _ c.requires c.self.inside.desk c.find_owner-owner.result (ap (λ (d : Detected). d.desk) c.self.view_is) c.find_owner-owner.ensures
    c.trace-trace.result.now c.watcher.result.now c.trace-trace.ensures c.watcher.ensures

pub returns : goal.returns
returns c =
    tells _ _ _ c.requires c.self.inside.desk c.find_owner-owner.result (ap (λ (d : Detected). d.desk) c.self.view_is) c.find_owner-owner.ensures
    c.trace-trace.result.now c.watcher.result.now c.trace-trace.ensures c.watcher.ensures _ c.in_ok-side.ensures

use Rattle.std.proofs.Common.{rules, None, refl}
use Rattle.run_record.specs.declared.event.Event.TheVariants.{Begin, Create, End, Join, Acquire, Release, Destroy, Clear}
use Rattle.slot_desk.specs.Desks.{thread_of}
use Rattle.detector.proofs.HearLaws.{may_end, hears_event, hears_call, hears_still, hears_alone}
use Rattle.detector.proofs.detector.Detector.hear.Goals as goal

pub end-requires-clause-may : goal.end-requires-clause-may
end-requires-clause-may c = may_end _ _ _ _ _ c.requires.stands c.requires.going c.self.view_is c.index_mut.ensures.value

pub returns-in-Begin : goal.returns-in-Begin
returns-in-Begin c = record { heard = hears_event _ _ _ _ _ _ c.requires.going c.requires.can _ Begin _ _ c.in-Begin.is refl refl c.begin.ensures refl }

pub returns-in-Create : goal.returns-in-Create
returns-in-Create c = record { heard = hears_event _ _ _ _ _ _ c.requires.going c.requires.can _ (Create c.in-Create.child) _ _ c.in-Create.is refl refl c.in_ok-spent-in-Create.ensures.new c.in_ok-spent-in-Create.ensures.value }

pub returns-in-End : goal.returns-in-End
returns-in-End c = record { heard = hears_call _ _ _ _ _ _ c.requires.going c.requires.can _ _ _ (End) _ _ _ c.self.view_is c.index_mut.ensures.value c.in-End.is refl (c.end.ensures.watcher None c.self.inside.objects) c.end.ensures.desk refl refl }

pub returns-in-Join : goal.returns-in-Join
returns-in-Join c = record { heard = hears_call _ _ _ _ _ _ c.requires.going c.requires.can _ _ _ (Join c.in-Join.of) _ _ _ c.self-in-Join.view_is c.index_mut-in-Join.ensures.value c.in-Join.is refl (c.join.ensures.watcher None c.self-in-Join.inside.objects) c.join.ensures.desk refl refl }

pub returns-in-Acquire : goal.returns-in-Acquire
returns-in-Acquire c = record { heard = hears_call _ _ _ _ _ _ c.requires.going c.requires.can _ _ _ (Acquire c.in-Acquire.addr c.in-Acquire.part) _ _ _ c.self-in-Acquire.view_is c.index_mut-in-Acquire.ensures.value c.in-Acquire.is refl (c.acquire.ensures None c.self-in-Acquire.inside.desk) refl refl refl }

pub returns-in-Release : goal.returns-in-Release
returns-in-Release c = record { heard = hears_call _ _ _ _ _ _ c.requires.going c.requires.can _ _ _ (Release c.in-Release.addr c.in-Release.part c.in-Release.replaces) _ _ _ c.self-in-Release.view_is c.index_mut-watcher.ensures.value c.in-Release.is refl (c.release-spent.ensures.watcher None c.self-in-Release.inside.desk) refl c.release-spent.ensures.objects c.release-spent.ensures.spent }

pub returns-in-Destroy : goal.returns-in-Destroy
returns-in-Destroy c =
    record { heard = hears_still _ _ _ _ _ _ c.requires.going c.requires.can _ (Destroy c.in-Destroy.addr) _ c.self-in-Destroy.view_is c.in-Destroy.is refl (c.destroy.ensures.ends, c.destroy.ensures.objects) refl refl }

pub returns-in-Clear : goal.returns-in-Clear
returns-in-Clear c =
    record { heard = hears_still _ _ _ _ _ _ c.requires.going c.requires.can _ (Clear c.in-Clear.addr) _ c.self-in-Clear.view_is c.in-Clear.is refl (c.clear.ensures.removes, c.clear.ensures.objects) refl refl }

pub returns-in-Enter : goal.returns-in-Enter
returns-in-Enter c =
    let d = c.self-in-Enter.inside in
    record { heard = hears_alone _ _ _ _ _ _ c.requires.going c.requires.can _ _ _ c.self-in-Enter.view_is c.index_mut-in-Enter.ensures.value (search rules) (search rules) (c.hear_alone.ensures (thread_of d.desk c.args.tid).told d.objects d.desk) }

pub returns-in-Put : goal.returns-in-Put
returns-in-Put c = record { heard = hears_still _ _ _ _ _ _ c.requires.going c.requires.can c.args.self.now _ _ refl c.in-Put.is refl refl refl refl }

use Rattle.std.proofs.Common.{◌≡◌, ◌<◌, ◌∙◌, ap, length, List}
use Rattle.std.proofs.lemmas.List.{get_or_default}
use Rattle.race_core.specs.Watched.{Watched, new_watched}
use Rattle.race_core.specs.declared.watcher.Candidate.{Candidate}
use Rattle.hart_events.specs.Checks.{waits_on}
use Rattle.detector.specs.contracts.detector.Detector.{the_view}
use Rattle.detector.specs.Detected.{Detected, watcher_of}
use Rattle.detector.proofs.detector.Detector.wait.Goals as goal

pub returns : goal.returns
returns c = λ a e.
    let d = the_view c.self.inside in
    let within : c.args.tid < length d.watchers = rw (← c.self.view_is) at c.requires.watched in
    let watcher : c.index.result.now ≡ watcher_of d c.args.tid =
    c.index.ensures ∙ get_or_default d.watchers c.args.tid c.index.result.now (new_watched c.args.tid d.limits) within in
    let waiting : c.wait_for.new.waiting.items ≡ waits_on (watcher_of d c.args.tid) a c.args.raced d.waiting =
    c.in_ok-wait_for.ensures a e ∙ ap (λ (w : Watched). waits_on w a c.args.raced d.waiting) watcher in
    ap (λ (ws : List Candidate). record d { waiting = ws }) waiting
    ∙ ap (λ (x : Detected). record x { waiting = waits_on (watcher_of x c.args.tid) a c.args.raced x.waiting }) c.self.view_is

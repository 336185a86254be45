use Rattle.std.proofs.Common.{◌<◌, List, sym, subst}
use Rattle.std.specs.Prelude.{length}
use Rattle.race_core.specs.Watched.{Watched}
use Rattle.detector.proofs.HearLaws.{hears_access, kept_watchers}
use Rattle.detector.proofs.detector.Detector.access.Goals as goal

pub note-requires-clause-watched : goal.note-requires-clause-watched
note-requires-clause-watched c = subst (λ (ws : List Watched). c.args.tid < length ws) (sym (kept_watchers _ _ _ _ _ _ _ _ _ _ c.in_ok-raced.ensures.all c.in_ok-wait.ensures).0) c.requires.going.watched

pub note-requires-clause-spare : goal.note-requires-clause-spare
note-requires-clause-spare c = subst (λ (w : Watched). 0 < w.trace.spare) (sym (kept_watchers _ _ _ _ _ _ _ _ _ _ c.in_ok-raced.ensures.all c.in_ok-wait.ensures).1) c.requires.spare

pub note-requires-clause-count : goal.note-requires-clause-count
note-requires-clause-count c = subst (λ (w : Watched). w.trace.count < 18446744073709551615) (sym (kept_watchers _ _ _ _ _ _ _ _ _ _ c.in_ok-raced.ensures.all c.in_ok-wait.ensures).1) c.requires.count

pub returns : goal.returns
returns c = record { heard = hears_access _ _ _ _ _ _ _ _ _ _ _ c.requires.going c.in_ok-raced.ensures.all c.in_ok-wait.ensures c.note.ensures }

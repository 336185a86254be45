use Rattle.std.specs.Prelude.{◌<◌, ◌^◌, length, All}
use Rattle.std.proofs.lemmas.Result.{IfOk-weaker}
use Rattle.run_record.specs.declared.walk.EntryEvents.{EntryEvents}
use Rattle.offline_audit.proofs.WalkedEntries.{are_short}
use Rattle.offline_audit.proofs.walked.walked.Goals as goal

pub returns-clause-short : goal.returns-clause-short
returns-clause-short c =
    IfOk-weaker c.walk.result _ (λ walk. All (λ (w : EntryEvents). length w.events.now < 2 ^ 32) walk.items)
    (λ walk are. are_short c.args.history.now.entries walk.items are) c.walk.ensures

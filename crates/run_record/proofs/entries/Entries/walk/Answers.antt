use Rattle.std.proofs.Common.{sym}
use Rattle.std.proofs.lemmas.Result.{IfOk-weaker}
use Rattle.run_record.specs.Flat.{checks_of}
use Rattle.run_record.specs.Walk.{AreRowEvents, AreEventsOf}
use Rattle.run_record.proofs.WalkLaws.{walk-rows}
use Rattle.run_record.proofs.entries.Entries.walk.Goals as goal

pub returns : goal.returns
returns c =
    let f = c.self.inside.flat in
    IfOk-weaker c.row_events.result (λ walk. AreRowEvents c.deref.result.now c.deref-2.result.now walk.items) (λ walk. AreEventsOf c.args.self.now walk.items)
    (λ walk are. rw (sym c.self.view_is)
    (walk-rows 0 f.rows.items f.notes.items f.events.items (checks_of 0 f.checks.items f.words.items) walk.items
    (rw (sym c.deref.ensures.value, sym c.deref-2.ensures.value) are))) c.row_events.ensures

use Rattle.std.proofs.Common.{List, length, sym, ap, ◌∙◌}
use Rattle.run_record.specs.declared.entry.Entry.{Entry}
use Rattle.run_record.specs.Flat.{checks_of}
use Rattle.run_record.proofs.FlatLaws.{length-entries_of}
use Rattle.run_record.proofs.entries.Entries.len.Goals as goal

pub returns : goal.returns
returns c =
    let f = c.self.inside.flat in
    c.len.ensures ∙ f.rows.ok.0 ∙ sym (length-entries_of 0 f.rows.items f.notes.items f.events.items (checks_of 0 f.checks.items f.words.items)) ∙ ap
    (λ (entries : List Entry). length entries) c.self.view_is

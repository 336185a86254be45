use Rattle.std.proofs.Common.{◌≤◌, List, length, sym, ap, arith}
use Rattle.std.proofs.lemmas.List.{take_all}
use Rattle.run_record.specs.declared.entry.Entry.{Entry}
use Rattle.run_record.specs.Flat.{checks_of}
use Rattle.run_record.proofs.FlatLaws.{length-entries_of}
use Rattle.run_record.proofs.entries.Entries.truncate.Goals as goal

pub returns-else-n-len : goal.returns-else-n-len
returns-else-n-len c =
    let f = c.self.inside.flat in
    let count = length-entries_of 0 f.rows.items f.notes.items f.events.items (checks_of 0 f.checks.items f.words.items) in
    let all : length c.args.self.now ≤ c.args.n =
    omega (arith, count, c.len.ensures, f.rows.ok.0, ap (λ (entries : List Entry). length entries) c.self.view_is)
    in
    sym (take_all c.args.n c.args.self.now all)

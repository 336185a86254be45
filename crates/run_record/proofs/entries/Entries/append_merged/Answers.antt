use Rattle.std.proofs.Common.{◌≡◌, ◌∙◌, List, length, ap, arith, take}
use Rattle.std.proofs.lemmas.List.{length-append}
use Rattle.run_record.specs.declared.entry.Entry.{Entry}
use Rattle.run_record.specs.Flat.{flat_entries, checks_of}
use Rattle.run_record.proofs.MergeRests.{as_many_entries, cut_off, on_err}
use Rattle.run_record.proofs.entries.Entries.append_merged.Goals as goal

pub cut-requires-clause-within : goal.cut-requires-clause-within
cut-requires-clause-within c =
    let old = c.self.inside.flat in
    let new = c.put_merged-merged.new.flat in
    let more = c.put_merged-merged.ensures.more in
    let grown = ap (λ (es : List Entry). length es) more.1 in
    let first = as_many_entries 0 old.rows.items old.notes.items old.events.items (checks_of 0 old.checks.items old.words.items) in
    let second = as_many_entries 0 new.rows.items new.notes.items new.events.items (checks_of 0 new.checks.items new.words.items) in
    let len = c.len-count.ensures in
    omega (arith, first, second, grown, len, length-append (flat_entries old) more.0)

pub returns-then-is_err-clause-err : goal.returns-then-is_err-clause-err
returns-then-is_err-clause-err c =
    let old = c.self.inside.flat in
    let more = c.put_merged-merged.ensures.more in
    let first = as_many_entries 0 old.rows.items old.notes.items old.events.items (checks_of 0 old.checks.items old.words.items) in
    let len = c.len-count.ensures in
    let count : c.len-count.result ≡ length (flat_entries old) = omega (arith, first, len) in
    on_err c.put_merged-merged.result _
    (c.cut.ensures.entries ∙ (ap (λ (es : List Entry). take c.len-count.result es) more.1
    ∙ (cut_off (flat_entries old) more.0 c.len-count.result count ∙ c.self.view_is)))

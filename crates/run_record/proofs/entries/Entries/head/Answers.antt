use Rattle.std.proofs.Common.{◌≡◌, ◌∙◌, sym, ap, refl, Some, None, List, length}
use Rattle.std.specs.Prelude.{slice_get, option_map}
use Rattle.std.proofs.lemmas.Option.{slice_get_read, slice_get_past}
use Rattle.run_record.specs.declared.entry.Entry.{Entry}
use Rattle.run_record.specs.declared.flat.Row.{Row}
use Rattle.run_record.specs.Flat.{head_of, checks_of}
use Rattle.run_record.proofs.MergeRests.{head_at}
use Rattle.run_record.proofs.entries.Entries.head.Goals as goal

pub returns-in-Some : goal.returns-in-Some
returns-in-Some c =
    let f = c.self.inside.flat in
    let at = head_at c.args.n 0 f.rows.items f.notes.items f.events.items (checks_of 0 f.checks.items f.words.items) in
    let found = rw c.deref.ensures.value at c.in-Some.ensures.lookup in
    let is : slice_get f.rows.items c.args.n ≡ Some c.in-Some.row.now = slice_get_read f.rows.items (length f.rows.items) c.args.n c.in-Some.row.now refl found.3.0 found.1 in
    sym (ap (option_map (λ (r : Row). r.head)) is) ∙ (at ∙ ap (λ (es : List Entry). option_map head_of (slice_get es c.args.n)) c.self.view_is)

pub returns-in-None : goal.returns-in-None
returns-in-None c =
    let f = c.self.inside.flat in
    let at = head_at c.args.n 0 f.rows.items f.notes.items f.events.items (checks_of 0 f.checks.items f.words.items) in
    let found = rw c.deref.ensures.value at c.in-None.ensures.lookup in
    let is : slice_get f.rows.items c.args.n ≡ None = slice_get_past f.rows.items c.args.n found.3 in
    sym (ap (option_map (λ (r : Row). r.head)) is) ∙ (at ∙ ap (λ (es : List Entry). option_map head_of (slice_get es c.args.n)) c.self.view_is)

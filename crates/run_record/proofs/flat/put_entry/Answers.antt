use Rattle.std.proofs.Common.{◌≡◌, ℕ, ◌++◌, length, refl, ap, ◌∙◌}
use Rattle.run_record.specs.declared.flat.Row.{Row}
use Rattle.run_record.specs.Marks.{note_marks}
use Rattle.run_record.proofs.FlatLaws.{push_entry, push_whole}
use Rattle.run_record.proofs.flat.put_entry.Goals as goal
use Rattle.run_record.proofs.flat.put_entry.Goals.{After-put}

notes_are : (c : After-put) → c.put_note.new.notes.items ≡ c.args.flat.now.notes.items ++ note_marks (length c.args.flat.now.rows.items) c.args.note
notes_are c = c.put_note.ensures.items ∙ ap (λ (n : ℕ). c.args.flat.now.notes.items ++ note_marks n c.args.note) (c.len.ensures ∙ c.args.flat.now.rows.ok.0)

row_of : After-put → Row
row_of c = record { head = c.args.head; events = length c.args.events.now; checks = length c.args.checks.now }

pub returns-clause-whole : goal.returns-clause-whole
unfolding row_of
returns-clause-whole c = push_whole _ _ (row_of c) _ _ _ _ _ _ _ _ _ _ _ c.requires.whole c.put.ensures.items
    (notes_are c) c.put_all.ensures.items c.put_checks.ensures.checks refl refl c.put_checks.ensures.used

pub returns-clause-entries : goal.returns-clause-entries
unfolding row_of
returns-clause-entries c =
    push_entry _ _ (row_of c) _ _ c.args.note _ _ _ _ _ _ _ _ c.requires.whole c.put.ensures.items
    (notes_are c) c.put_all.ensures.items c.put_checks.ensures.checks refl refl

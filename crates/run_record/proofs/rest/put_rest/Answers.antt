use Rattle.std.proofs.Common.{◌≡◌, ◌++◌, length, ℕ, List, ap, ap₂, ◌∙◌, arith}
use Rattle.run_record.specs.declared.entry.DeskNote.{DeskNote}
use Rattle.run_record.specs.declared.event.Event.{Event}
use Rattle.run_record.specs.declared.flat.Row.{Row}
use Rattle.run_record.specs.declared.flat.KeptCheck.{KeptCheck}
use Rattle.run_record.specs.declared.flat.Mark.{Mark}
use Rattle.run_record.specs.Marks.{renumbered}
use Rattle.run_record.proofs.MarkLaws.{used_bounds, used_count}
use Rattle.run_record.proofs.RestLaws.{IsBehind, behind-entries, behind-whole}
use Rattle.run_record.proofs.rest.put_rest.Goals as goal
use Rattle.run_record.proofs.rest.put_rest.Goals.{After-put_all-3}

pub put_marks-requires-clause-room : goal.put_marks-requires-clause-room
put_marks-requires-clause-room c =
    let r = c.args.rest.now in
    omega (arith, used_count r.entry (length r.rows.now) r.notes.now c.requires.rest.notes_are, c.in_ok-reserve.ensures.room.notes)

pub put_marks-requires-clause-fits : goal.put_marks-requires-clause-fits
put_marks-requires-clause-fits c =
    let r = c.args.rest.now in
    let bounds = used_bounds r.entry (length r.rows.now) r.notes.now c.requires.rest.notes_are in
    let f = c.reserve.new.flat in
    λ k d within. (
      (bounds k d within).0,
      omega (arith, (bounds k d within).0, (bounds k d within).1, c.len-entries.ensures, c.in_ok-reserve.ensures.room.rows, f.rows.small),
    )

pub put_marks-requires-2-clause-room : goal.put_marks-requires-2-clause-room
put_marks-requires-2-clause-room c =
    let r = c.args.rest.now in
    omega (arith, used_count r.check (length r.checks.now) r.words.now c.requires.rest.words_are, c.in_ok-reserve.ensures.room.words)

pub put_marks-requires-2-clause-fits : goal.put_marks-requires-2-clause-fits
put_marks-requires-2-clause-fits c =
    let r = c.args.rest.now in
    let bounds = used_bounds r.check (length r.checks.now) r.words.now c.requires.rest.words_are in
    let f = c.reserve.new.flat in
    λ k d within. (
      (bounds k d within).0,
      omega (arith, (bounds k d within).0, (bounds k d within).1, c.len-checks.ensures, c.in_ok-reserve.ensures.room.checks, f.checks.small),
    )

behind : (c : After-put_all-3) → IsBehind c.args.flat.now.rows.items c.put_all.new.items.items c.args.flat.now.notes.items c.put_marks.new.marks.items
    c.args.flat.now.events.items c.put_all-2.new.items.items c.args.flat.now.checks.items c.put_all-3.new.items.items
    c.args.flat.now.words.items c.put_marks-2.new.marks.items c.args.rest.now
behind c =
    let r = c.args.rest.now in
    let f = c.reserve.new.flat in
    let same = c.in_ok-reserve.ensures.same in
    let rows : c.len-entries.result ≡ length c.args.flat.now.rows.items =
    c.len-entries.ensures ∙ f.rows.ok.0 ∙ ap (λ (xs : List Row). length xs) same.rows
    in
    let checks : c.len-checks.result ≡ length c.args.flat.now.checks.items =
    c.len-checks.ensures ∙ f.checks.ok.0 ∙ ap (λ (xs : List KeptCheck). length xs) same.checks
    in
    record {
      rows_are = c.put_all.ensures.items ∙ ap (λ (xs : List Row). xs ++ r.rows.now) same.rows;
      notes_are = c.put_marks.ensures.items ∙ ap₂ (λ (xs : List (Mark DeskNote)) (n : ℕ). xs ++ renumbered r.entry n r.notes.now) same.notes rows;
      events_are = c.put_all-2.ensures.items ∙ ap (λ (xs : List Event). xs ++ r.events.now) same.events;
      checks_are = c.put_all-3.ensures.items ∙ ap (λ (xs : List KeptCheck). xs ++ r.checks.now) same.checks;
      words_are = c.put_marks-2.ensures.items ∙ ap₂ (λ (xs : List (Mark ℕ)) (n : ℕ). xs ++ renumbered r.check n r.words.now) same.words checks;
    }

pub returns-clause-whole : goal.returns-clause-whole
returns-clause-whole c = behind-whole _ _ _ _ _ _ _ _ _ _ c.args.rest.now c.requires.whole c.requires.rest (behind c)

pub returns-clause-ok : goal.returns-clause-ok
returns-clause-ok c = behind-entries _ _ _ _ _ _ _ _ _ _ c.args.rest.now c.requires.whole c.requires.rest (behind c)

use Rattle.std.proofs.Common.{◌≡◌, Option, Some, None, map, get_or, sym, ap, ◌∙◌, arith}
use Rattle.symbol_lines.specs.declared.rows.Row.{Row}
use Rattle.symbol_lines.specs.Lines.{position_in, row_at, file_text}
use Rattle.symbol_lines.specs.KeptLines.{resolved, files_view, no_files}
use Rattle.symbol_lines.specs.MachineViews.{sequence_view}
use Rattle.symbol_lines.proofs.Looking.{item_below, missed, found_position, nothing_known, empty_position, full_position}
use Rattle.symbol_lines.proofs.positions.find_position.Goals as goal

pub returns-in-None : goal.returns-in-None
returns-in-None c =
    nothing_known _ _ c.of_name.ensures (missed (map sequence_view c.args.sequences.now) c.args.place (map files_view c.args.units.now) (c.in-None.ensures ∙ c.requires.value))

pub bounds-sequences-owner : goal.bounds-sequences-owner
bounds-sequences-owner c = item_below sequence_view c.args.sequences.now c.args.place c.in-Some.owner (c.in-Some.ensures ∙ c.requires.value)

pub offset_bounds-sequences-owner : goal.offset_bounds-sequences-owner
offset_bounds-sequences-owner c =
    let below = item_below sequence_view c.args.sequences.now c.args.place c.in-Some.owner (c.in-Some.ensures ∙ c.requires.value) in
    omega arith

pub returns-in-None-find_row : goal.returns-in-None-find_row
returns-in-None-find_row c =
    let s = c.index-sequences-owner.result in
    let found = found_position sequence_view c.args.sequences.now c.args.place (map files_view c.args.units.now) c.in-Some.owner s (c.in-Some.ensures ∙ c.requires.value) c.index-sequences-owner.is in
    let row : None ≡ row_at s.rows.items c.args.place = rw c.as_slice.ensures.value at c.in-None-find_row.ensures in
    nothing_known _ _ c.of_name-in-None-find_row.ensures (sym (found ∙ ap (λ (o : Option Row). position_in (resolved (map files_view c.args.units.now) (sequence_view s)) o) (sym row)))

pub returns-then-is_empty : goal.returns-then-is_empty
returns-then-is_empty c =
    let s = c.index-sequences-owner.result in
    let r = c.in-Some-find_row.row in
    let found = found_position sequence_view c.args.sequences.now c.args.place (map files_view c.args.units.now) c.in-Some.owner s (c.in-Some.ensures ∙ c.requires.value) c.index-sequences-owner.is in
    let row : Some r ≡ row_at s.rows.items c.args.place = rw c.as_slice.ensures.value at c.in-Some-find_row.ensures in
    let text = rw c.text_at-file.ensures at c.is_empty.ensures in
    nothing_known _ _ c.of_name-then-is_empty.ensures
    (empty_position r.line (file_text (get_or (map files_view c.args.units.now) s.unit no_files) r.file) c.is_empty.result text c.if-is_empty.true
    ∙ sym (found ∙ ap (λ (o : Option Row). position_in (resolved (map files_view c.args.units.now) (sequence_view s)) o) (sym row)))

pub returns-else-is_empty : goal.returns-else-is_empty
returns-else-is_empty c =
    let s = c.index-sequences-owner.result in
    let r = c.in-Some-find_row.row in
    let found = found_position sequence_view c.args.sequences.now c.args.place (map files_view c.args.units.now) c.in-Some.owner s (c.in-Some.ensures ∙ c.requires.value) c.index-sequences-owner.is in
    let row : Some r ≡ row_at s.rows.items c.args.place = rw c.as_slice.ensures.value at c.in-Some-find_row.ensures in
    let text = rw c.text_at-file.ensures at c.is_empty.ensures in
    rw c.text_at-file.ensures (full_position r.line (file_text (get_or (map files_view c.args.units.now) s.unit no_files) r.file) c.is_empty.result text c.if-is_empty.false)
    ∙ sym (found ∙ ap (λ (o : Option Row). position_in (resolved (map files_view c.args.units.now) (sequence_view s)) o) (sym row))

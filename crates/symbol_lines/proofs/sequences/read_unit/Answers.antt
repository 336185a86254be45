use Rattle.std.proofs.Common.{◌≡◌, ℕ, List, length, Some, sym, ap, ◌∙◌}
use Rattle.std.specs.Prelude.{fold}
use Rattle.std.specs.Option.{option_map}
use Rattle.symbol_lines.specs.Program.{unit_at, begin, operations_in}
use Rattle.symbol_lines.specs.Kept.{kept_machine, perform_kept}
use Rattle.symbol_lines.specs.KeptLines.{files_view}
use Rattle.symbol_lines.specs.Views.{unit_view}
use Rattle.symbol_lines.specs.MachineViews.{machine_view}
use Rattle.symbol_lines.specs.SectionViews.{sections_view}
use Rattle.symbol_lines.specs.Lines.{first_number, file_list}
use Rattle.symbol_lines.proofs.Gathering.{ends, unit_read, unit_number}
use Rattle.symbol_lines.proofs.Pathing.{texts_in-shown}
use Rattle.symbol_lines.proofs.sequences.read_unit.Goals as goal

pub returns-clause-lines : goal.returns-clause-lines
returns-clause-lines c =
    let u = unit_view c.in-Some.unit in
    let m = machine_view c.in-Some-2.machine in
    let texts = sections_view c.args.sections.now in
    let read : unit_at texts c.args.bytes.now ≡ Some u = sym c.in_ok-unit.ensures ∙ ap (option_map unit_view) c.in-Some.is in
    let ran : Some m ≡ option_map (fold perform_kept (kept_machine c.args.number (begin u.files))) (operations_in u.rules (length u.program) u.program) =
    sym (ap (option_map machine_view) c.in-Some-2.is) ∙ (rw (c.new.ensures.items, c.new-2.ensures.items) at c.in_ok-machine.ensures) in
    let kept = rw (c.as_slice.ensures.value, c.as_slice-2.ensures.value) at c.in_ok-files.ensures in
    let files : files_view c.in_ok-files.files ≡ file_list texts u m.files =
    kept ∙ ap (λ (ts : List (List ℕ)). record { first = first_number u.rules.version; texts = ts }) (texts_in-shown texts (first_number u.rules.version) u.directories m.files) in
    rw (c.replace-sequences.ensures.value, read) (unit_read texts c.args.number u m (files_view c.in_ok-files.files) (ends c.args.number u m ran) files)

pub returns-clause-units : goal.returns-clause-units
returns-clause-units c =
    let u = unit_view c.in-Some.unit in
    let m = machine_view c.in-Some-2.machine in
    let ran : Some m ≡ option_map (fold perform_kept (kept_machine c.args.number (begin u.files))) (operations_in u.rules (length u.program) u.program) =
    sym (ap (option_map machine_view) c.in-Some-2.is) ∙ (rw (c.new.ensures.items, c.new-2.ensures.items) at c.in_ok-machine.ensures) in
    rw c.replace-sequences.ensures.value (unit_number c.args.number u m (ends c.args.number u m ran))

use Rattle.std.proofs.Common.{ℕ, ◌-◌, Some, ap, ◌∙◌, length, get_or, arith}
use Rattle.symbol_lines.specs.NameEnds.{name_end}
use Rattle.symbol_lines.proofs.Ending.{name_found, is_place, end_told}
use Rattle.symbol_lines.proofs.name_table.shown_at.Goals as goal

pub from_utf8_unchecked-requires : goal.from_utf8_unchecked-requires
from_utf8_unchecked-requires c =
    let strings = c.args.strings.now in
    let end : ℕ = get_or c.args.ends.now (length strings - 1 - c.args.offset) 0 in
    (name_found strings c.args.offset end (is_place strings end (name_end strings c.args.offset) (omega arith) (end_told strings c.args.ends.now c.args.offset c.requires.found c.requires.all (omega arith)))).2

pub returns : goal.returns
returns c =
    let strings = c.args.strings.now in
    let end : ℕ = get_or c.args.ends.now (length strings - 1 - c.args.offset) 0 in
    ap Some (c.from_utf8_unchecked.ensures)
    ∙ (name_found strings c.args.offset end (is_place strings end (name_end strings c.args.offset) (omega arith) (end_told strings c.args.ends.now c.args.offset c.requires.found c.requires.all (omega arith)))).3

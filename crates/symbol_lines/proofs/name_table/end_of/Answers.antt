use Rattle.std.proofs.Common.{sym, ◌∙◌, arith}
use Rattle.symbol_lines.proofs.Ending.{end_at_zero, end_low, end_inside, end_bad, end_good, end_past, end_kept}
use Rattle.symbol_lines.proofs.name_table.end_of.Goals as goal
use Rattle.symbol_lines.proofs.name_table.end_of.Goals.{then-byte-lt32-via-then-byte-lt32, then-byte-lt32-via-else-byte-lt32+then-is_inside}

pub returns-then-byte-eq0 : goal.returns-then-byte-eq0
returns-then-byte-eq0 c = end_at_zero c.args.strings.now c.args.offset (omega arith) c.if-byte-eq0.true

pub returns-then-byte-lt32 : goal.returns-then-byte-lt32
returns-then-byte-lt32 c =
    elim c.then-byte-lt32.branch [
      | then-byte-lt32-via-then-byte-lt32 w ↦ end_low c.args.strings.now c.args.offset (omega arith) c.if-byte-eq0.false w.if-byte-lt32.true
      | then-byte-lt32-via-else-byte-lt32+then-is_inside w ↦ end_inside c.args.strings.now c.args.offset (omega arith) (sym w.is_inside.ensures ∙ w.if-is_inside.true)
    ]

pub returns-in-Err : goal.returns-in-Err
returns-in-Err c =
    end_bad c.args.strings.now c.args.offset c.args.boundary c.requires.boundary (omega (arith, c.if-byte-lt32.false)) c.in-Err.ensures.cases.0

pub returns-then-boundary-none : goal.returns-then-boundary-none
returns-then-boundary-none c =
    end_past c.args.strings.now c.args.boundary (omega arith)
    ∙ sym (end_good c.args.strings.now c.args.offset c.args.boundary c.requires.boundary (omega (arith, c.if-byte-lt32.false)) c.in-Ok.ensures.cases.1)

pub returns-else-boundary-none : goal.returns-else-boundary-none
returns-else-boundary-none c =
    end_kept c.args.strings.now c.args.ends.now c.args.offset c.args.boundary c.requires.ends c.requires.all c.requires.boundary.above (omega arith)
    ∙ sym (end_good c.args.strings.now c.args.offset c.args.boundary c.requires.boundary (omega (arith, c.if-byte-lt32.false)) c.in-Ok.ensures.cases.1)

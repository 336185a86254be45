use Rattle.symbol_lines.proofs.Spanning.{function_more, function_same}
use Rattle.symbol_lines.proofs.symbols.function_spans.Goals as goal
use Rattle.symbol_lines.proofs.symbols.function_spans.Goals.{then-table-at-eq-STT_FUNC+in_ok-push, else-table-at-eq-STT_FUNC}

pub loop-number-preserved : goal.loop-number-preserved
loop-number-preserved c =
    let table = c.args.table.now in
    elim c.if-table-at-eq-STT_FUNC.branch [
      | then-table-at-eq-STT_FUNC+in_ok-push w ↦
          rw (w.spans-is, w.in_ok-push.ensures.items, w.u64_at-start.ensures, w.u64_at.ensures, w.u32_at.ensures)
          (function_more c.loop-number.spans.items table c.loop-number.number c.loop-number.invariant w.if-table-at-eq-STT_FUNC.true)
      | else-table-at-eq-STT_FUNC w ↦
          rw w.spans-is (function_same c.loop-number.spans.items table c.loop-number.number c.loop-number.invariant w.if-table-at-eq-STT_FUNC.false)
    ]

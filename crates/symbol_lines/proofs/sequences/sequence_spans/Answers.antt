use Rattle.symbol_lines.specs.MachineViews.{sequence_view}
use Rattle.symbol_lines.proofs.Looking.{numbered_more}
use Rattle.symbol_lines.proofs.sequences.sequence_spans.Goals as goal

pub loop-item-preserved : goal.loop-item-preserved
loop-item-preserved c =
    rw (c.in_ok-push.ensures.items, c.saturating_sub.ensures, c.loop-item.invariant)
    (numbered_more sequence_view c.args.sequences.now c.loop-item.item c.index-sequences-item.result c.loop-item-test.true c.index-sequences-item.is)

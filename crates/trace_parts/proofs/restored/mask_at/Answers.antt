use Rattle.std.proofs.Common.{arith}
use Rattle.trace_parts.proofs.MaskLaws.{shift_le}
use Rattle.trace_parts.proofs.restored.mask_at.Goals as goal

pub overflow_sub-result : goal.overflow_sub-result
overflow_sub-result c =
    shift_le c.min-first.result c.min-last.result
    (omega (arith, c.min-first.ensures, c.saturating_sub-2.ensures, c.min-last.ensures, c.saturating_sub.ensures, c.min-end.ensures, c.from.ensures, c.from-2.ensures, c.from-3.ensures))
    (omega (arith, c.min-last.ensures))

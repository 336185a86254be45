use Rattle.std.proofs.Common.{arith}
use Rattle.trace_parts.proofs.MaskLaws.{shift_le}
use Rattle.race_core.proofs.parts.mask_in.Goals as goal

pub overflow_sub-result : goal.overflow_sub-result
overflow_sub-result c =
    shift_le c.min-before.result c.min-behind.result
    (omega (arith, c.min-before.ensures, c.saturating_sub-2.ensures, c.min-behind.ensures, c.saturating_sub.ensures, c.min-end.ensures, c.from.ensures, c.from-2.ensures, c.from-3.ensures))
    (omega (arith, c.min-behind.ensures))

use Rattle.std.proofs.Common.{◌≡◌, ◌+◌, ◌-◌, arith}
use Rattle.symbol_lines.proofs.Ending.{none_at_end, none_before, texts_below}
use Rattle.symbol_lines.proofs.text_sections.ended_of.Goals as goal

pub loop-ended-init : goal.loop-ended-init
loop-ended-init c = record { within = omega arith; none = none_at_end c.args.bytes.now }

pub loop-ended-preserved : goal.loop-ended-preserved
loop-ended-preserved c =
    let end = c.loop-ended.ended in
    let same : end - 1 + 1 ≡ end = omega arith in
    record { within = omega arith; none = none_before c.args.bytes.now (end - 1) (omega arith) c.if-bytes-ended-ne0.true (rw same c.loop-ended.invariant.none) }

pub returns-else-bytes-ended-ne0 : goal.returns-else-bytes-ended-ne0
returns-else-bytes-ended-ne0 c =
    texts_below c.args.bytes.now c.loop-ended.ended c.loop-ended.invariant.within c.loop-ended.invariant.none (λ some. c.if-bytes-ended-ne0.false)

pub returns-after-loop-ended : goal.returns-after-loop-ended
returns-after-loop-ended c =
    texts_below c.args.bytes.now c.loop-ended.ended c.loop-ended.invariant.within c.loop-ended.invariant.none (λ some. absurd (omega arith))

use Rattle.std.proofs.Common.{length, ◌/◌, sym, ◌∙◌}
use Rattle.symbol_lines.proofs.Tables.{IfOk_then, owner_among-parts}
use Rattle.symbol_lines.proofs.spans.+steps_of.Goals as goal

pub returns-clause-value : goal.returns-clause-value
returns-clause-value t c =
    IfOk_then c.merge.result c.merge.ensures.value (λ v h p lt.
    h p ∙ rw (c.as_slice.ensures.value, c.as_slice-2.ensures.value, c.in_ok-first.ensures.value p lt, c.in_ok-second.ensures.value p lt, c.split_at.ensures.front, c.split_at.ensures.back)
    (sym (owner_among-parts c.args.spans.now (length c.args.spans.now / 2) p)))

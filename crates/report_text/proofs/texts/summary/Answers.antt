use Rattle.std.proofs.Common.{◌∙◌, ap, append_assoc}
use Rattle.report_text.proofs.TextLaws.{two_pieces}
use Rattle.report_text.proofs.texts.summary.Goals as goal

pub returns : goal.returns
returns c =
    let counts = rw c.len-reports.ensures at c.in_ok-text.ensures.ok in
    ap (λ v. v.items) c.into_bytes.ensures.value
    ∙ two_pieces _ _ _ _ _ _ counts c.in_ok-write_end.ensures c.in_ok-push_str.ensures.bytes
    ∙ simp append_assoc

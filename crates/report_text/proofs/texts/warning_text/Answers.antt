use Rattle.std.proofs.Common.{◌∙◌, ap}
use Rattle.report_text.proofs.TextLaws.{four_pieces}
use Rattle.report_text.proofs.texts.warning_text.Goals as goal

pub returns : goal.returns
returns g c =
    let later = rw c.kind_of.ensures at c.in_ok-write_side.ensures in
    let earlier = rw c.previous_kind_of.ensures at c.in_ok-write_side-2.ensures in
    ap (λ v. v.items) c.into_bytes.ensures.value
    ∙ four_pieces _ _ _ _ _ _ _ _ _ _ c.in_ok-text.ensures.ok later c.in_ok-push_str.ensures.bytes earlier c.in_ok-push_str-2.ensures.bytes

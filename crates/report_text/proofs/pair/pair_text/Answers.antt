use Rattle.std.proofs.Common.{◌∙◌, ap}
use Rattle.report_text.proofs.TextLaws.{four_pieces}
use Rattle.report_text.proofs.pair.pair_text.Goals as goal

pub returns : goal.returns
returns g c =
    let told = c.frame.ensures in
    let other = c.frame-2.ensures in
    let low = rw (told.name, told.file, told.line) at c.in_ok-write_place.ensures in
    let high = rw (other.name, other.file, other.line) at c.in_ok-write_place-2.ensures in
    ap (λ v. v.items) c.into_bytes.ensures.value
    ∙ four_pieces _ _ _ _ _ _ _ _ _ _ c.in_ok-text.ensures.ok low c.in_ok-push_str.ensures.bytes high c.in_ok-push_str-2.ensures.bytes

use Rattle.std.proofs.Common.{ap, ◌≡◌, ◌∙◌, ◌++◌, ◌∷◌, [], take, ◌+◌}
use Rattle.std.specs.List.{flat_map}
use Rattle.report_text.specs.Texts.{report_text}
use Rattle.tsanrun_cli.specs.Work.{bytes_of}
use Rattle.tsanrun_cli.proofs.Pieces.{text_more}
use Rattle.tsanrun_cli.proofs.texts.report_texts.Goals as goal

pub loop-report-preserved : goal.loop-report-preserved
loop-report-preserved g c =
    let text = report_text (g.F.Frames.frame_of c.args.frames.now) in
    let reports = c.as_slice-report-items.result.now in
    let at = c.loop-report.report-index in
    let more : flat_map bytes_of (c.loop-report.texts.items ++ c.in_ok-text_of.field-0 ∷ []) ≡ flat_map text (take (at + 1) reports) =
    text_more bytes_of text c.loop-report.texts.items c.in_ok-text_of.field-0 reports at c.report-item.result c.loop-report-test.true c.report-item.is c.in_ok-text_of.ensures c.loop-report.invariant in
    ap (flat_map bytes_of) c.in_ok-push.ensures.items ∙ more

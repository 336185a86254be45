use Rattle.symbol_lines.specs.FileTexts.{text_of as file_text}
use Rattle.report_text.proofs.TextLaws.{next_line}
use Rattle.report_text.proofs.texts.write_stack.Goals as goal

pub loop-number-preserved : goal.loop-number-preserved
loop-number-preserved g c =
    let told = c.frame.ensures in
    next_line (g.F.Frames.frame_of c.args.frames.now) _ _ _ _ _ (record { name = c.frame.result.name.now; file = file_text c.frame.result.file; line = c.frame.result.line })
    c.loop-number-test.true c.loop-number.invariant (λ i. record { name = told.name i; file = told.file i; line = told.line i }) c.in_ok-write_frame.ensures

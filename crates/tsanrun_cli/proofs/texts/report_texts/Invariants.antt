use Rattle.std.proofs.Common.{◌≡◌, take}
use Rattle.std.specs.List.{flat_map}
use Rattle.report_text.specs.Texts.{report_text}
use Rattle.tsanrun_cli.specs.Work.{bytes_of}
use Rattle.tsanrun_cli.proofs.texts.report_texts.Given as goal

-- the texts of the reports so far
abbrev pub invariant-loop-report : goal.invariant-loop-report
invariant-loop-report g l = flat_map bytes_of l.texts.items ≡ flat_map (report_text (g.F.Frames.frame_of l.frames)) (take l.report-index l.report-items)

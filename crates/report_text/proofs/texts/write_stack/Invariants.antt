use Rattle.std.proofs.Common.{◌≡◌, ◌++◌, take, string_bytes}
use Rattle.report_text.specs.Texts.{frame_lines}
use Rattle.report_text.proofs.texts.write_stack.Given as goal

abbrev pub invariant-loop-number : goal.invariant-loop-number
invariant-loop-number g l = string_bytes l.text ≡ string_bytes l.initial.text ++ frame_lines (g.F.Frames.frame_of l.frames) 0 (take l.number l.places)

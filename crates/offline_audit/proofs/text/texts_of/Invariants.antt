use Rattle.std.proofs.Common.{◌≡◌, take}
use Rattle.std.specs.List.{flat_map}
use Rattle.report_text.specs.Texts.{pair_bytes}
use Rattle.offline_audit.proofs.text.texts_of.Given as goal

abbrev pub invariant-loop-pair : goal.invariant-loop-pair
invariant-loop-pair g l = flat_map (λ t. t.items) l.texts.items ≡ flat_map (pair_bytes (g.F.Frames.frame_of l.frames)) (take l.pair-index l.pair-items)

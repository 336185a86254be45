use Rattle.std.proofs.Common.{◌≡◌, ◌++◌, codes, take, string_bytes}
use Rattle.std.specs.List.{flat_map}
use Rattle.report_text.specs.Texts.{lock_text}
use Rattle.report_text.proofs.texts.write_locks.Given as goal

abbrev pub invariant-loop-lock : goal.invariant-loop-lock
invariant-loop-lock l = string_bytes l.text ≡ string_bytes l.initial.text ++ flat_map (λ m. codes ", " ++ lock_text m) (take l.lock-index l.rest)

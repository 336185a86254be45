use Rattle.std.proofs.Common.{◌≡◌, drop}
use Rattle.suppress_rules.specs.Texts as texts
use Rattle.suppress_rules.specs.Texts.{text_view}
use Rattle.suppress_rules.proofs.parts.behind.Given as goal

abbrev pub invariant-loop-byte : goal.invariant-loop-byte
invariant-loop-byte l = texts.behind (drop l.byte-index l.piece) (text_view l.rest) ≡ texts.behind l.piece (text_view l.initial.rest)

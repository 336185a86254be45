use Rattle.std.proofs.Common.{◌≡◌, map, take}
use Rattle.std.specs.Option.{option_map}
use Rattle.symbol_lines.specs.KeptLines.{text_in, texts_view}
use Rattle.symbol_lines.specs.SectionViews.{sections_view}
use Rattle.symbol_lines.specs.Views.{entry_view}
use Rattle.symbol_lines.proofs.paths.texts_of.Given as goal

abbrev pub invariant-loop-file : goal.invariant-loop-file
invariant-loop-file l = texts_view l.texts ≡ map (text_in (sections_view l.sections) l.first (map (option_map (λ d. d.now)) l.directories)) (map entry_view (take l.file-index l.files))

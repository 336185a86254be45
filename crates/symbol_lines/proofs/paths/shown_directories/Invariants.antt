use Rattle.std.proofs.Common.{◌≡◌, map, take}
use Rattle.std.specs.Option.{option_map}
use Rattle.symbol_lines.specs.KeptLines.{shown_entry}
use Rattle.symbol_lines.specs.SectionViews.{sections_view}
use Rattle.symbol_lines.specs.Views.{entry_view}
use Rattle.symbol_lines.proofs.paths.shown_directories.Given as goal

abbrev pub invariant-loop-directory : goal.invariant-loop-directory
invariant-loop-directory l = map (option_map (λ d. d.now)) l.shown.items ≡ map (shown_entry (sections_view l.sections)) (map entry_view (take l.directory-index l.directories))

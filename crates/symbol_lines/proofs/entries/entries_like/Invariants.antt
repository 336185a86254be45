use Rattle.std.proofs.Common.{◌≡◌, ◌-◌, map}
use Rattle.symbol_lines.specs.Reading.{list_at}
use Rattle.symbol_lines.specs.Entries.{entry_at}
use Rattle.symbol_lines.specs.SectionViews.{sections_view}
use Rattle.symbol_lines.specs.Views.{entry_view, format_view}
use Rattle.symbol_lines.proofs.Counting.{with_front}
use Rattle.symbol_lines.proofs.entries.entries_like.Given as goal

abbrev pub invariant-loop : goal.invariant-loop
invariant-loop l = with_front (map entry_view l.found.items) (list_at (entry_at (sections_view l.sections) (map format_view l.formats)) (l.count - l.counter) l.rest) ≡ list_at (entry_at (sections_view l.sections) (map format_view l.formats)) l.count l.bytes

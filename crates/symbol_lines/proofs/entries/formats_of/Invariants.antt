use Rattle.std.proofs.Common.{◌≡◌, ◌-◌, map}
use Rattle.symbol_lines.specs.Reading.{list_at}
use Rattle.symbol_lines.specs.Entries.{format_at}
use Rattle.symbol_lines.specs.Views.{format_view}
use Rattle.symbol_lines.proofs.Counting.{with_front}
use Rattle.symbol_lines.proofs.entries.formats_of.Given as goal

abbrev pub invariant-loop : goal.invariant-loop
invariant-loop l = with_front (map format_view l.found.items) (list_at format_at (l.count - l.counter) l.rest) ≡ list_at format_at l.count l.bytes

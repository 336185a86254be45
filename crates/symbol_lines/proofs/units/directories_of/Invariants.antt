use Rattle.std.proofs.Common.{◌≡◌, ◌-◌, length, map}
use Rattle.symbol_lines.specs.Program.{directories_at}
use Rattle.symbol_lines.specs.Views.{entry_view}
use Rattle.symbol_lines.proofs.Counting.{with_front}
use Rattle.symbol_lines.proofs.units.directories_of.Given as goal

abbrev pub invariant-loop : goal.invariant-loop
invariant-loop l = with_front (map entry_view l.found.items) (directories_at (length l.bytes - l.counter) l.rest) ≡ directories_at (length l.bytes) l.bytes

use Rattle.std.proofs.Common.{◌≡◌, ◌-◌, length, map}
use Rattle.symbol_lines.specs.Program.{files_at}
use Rattle.symbol_lines.specs.Views.{entry_view}
use Rattle.symbol_lines.proofs.Counting.{with_files}
use Rattle.symbol_lines.proofs.units.files_of.Given as goal

abbrev pub invariant-loop : goal.invariant-loop
invariant-loop l = with_files (map entry_view l.found.items) (files_at (length l.bytes - l.counter) l.rest) ≡ files_at (length l.bytes) l.bytes

use Rattle.std.proofs.Common.{◌-◌, length, map}
use Rattle.symbol_lines.specs.KeptLines.{files_view}
use Rattle.symbol_lines.specs.MachineViews.{sequence_view}
use Rattle.symbol_lines.specs.SectionViews.{sections_view}
use Rattle.symbol_lines.proofs.Gathering.{Gathers}
use Rattle.symbol_lines.proofs.sequences.read_lines.Given as goal

abbrev pub invariant-loop : goal.invariant-loop
invariant-loop l = Gathers (sections_view l.sections) l.section (length l.section - l.counter) l.rest (map files_view l.units.items) (map sequence_view l.found.items)

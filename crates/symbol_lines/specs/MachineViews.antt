-- The machine's values, without where they lie in memory.
use Rattle.std.specs.Prelude.{map}
use Rattle.symbol_lines.specs.declared.machine.Sequence.{Sequence}
use Rattle.symbol_lines.specs.declared.machine.Machine.{Machine}
use Rattle.symbol_lines.specs.Kept.{KeptSequence, KeptMachine}
use Rattle.symbol_lines.specs.Views.{entry_view}

abbrev pub sequence_view : Sequence → KeptSequence
sequence_view s = record { start = s.start; end = s.end; rows = s.rows.items; unit = s.unit }

abbrev pub machine_view : Machine → KeptMachine
machine_view m = record {
  address = m.address;
  file = m.file;
  line = m.line;
  start = m.start;
  rows = m.rows.items;
  sequences = map sequence_view m.sequences.items;
  files = map entry_view m.files.items;
  unit = m.unit;
}

-- Values of the code, without where they lie in memory.
use Rattle.std.specs.Prelude.{map}
use Rattle.std.specs.Option.{option_map}
use Rattle.symbol_lines.specs.declared.program.Rules.{Rules}
use Rattle.symbol_lines.specs.declared.program.Path.{Path}
use Rattle.symbol_lines.specs.declared.program.Path.TheVariants as path
use Rattle.symbol_lines.specs.declared.program.Entry.{Entry}
use Rattle.symbol_lines.specs.declared.program.Operation.{Operation}
use Rattle.symbol_lines.specs.declared.program.Operation.TheVariants as code
use Rattle.symbol_lines.specs.declared.program.Unit.{Unit}
use Rattle.symbol_lines.specs.declared.entries.Format.{Format}
use Rattle.symbol_lines.specs.Paths as paths
use Rattle.symbol_lines.specs.Entries as entries
use Rattle.symbol_lines.specs.Program as program

abbrev pub rules_view : Rules → program.Rules
rules_view r = record {
  version = r.version;
  minimum_length = r.minimum_length;
  line_base = r.line_base;
  line_range = r.line_range;
  opcode_base = r.opcode_base;
  operand_counts = r.operand_counts.now;
}

abbrev pub path_view : Path → paths.Path
path_view (path.InUnit text) = paths.InUnit text.now
path_view (path.InStrings offset) = paths.InStrings offset
path_view (path.InLineStrings offset) = paths.InLineStrings offset

abbrev pub entry_view : Entry → paths.Entry
entry_view e = record { path = option_map path_view e.path; directory = e.directory }

abbrev pub format_view : Format → entries.Format
format_view f = record { content = f.content; form = f.form }

abbrev pub operation_view : Operation → program.Operation
operation_view (code.Advance by lines) = program.Advance by lines
operation_view (code.AddRow by lines) = program.AddRow by lines
operation_view (code.SetAddress a) = program.SetAddress a
operation_view (code.SetFile n) = program.SetFile n
operation_view code.EndSequence = program.EndSequence
operation_view (code.DefineFile f) = program.DefineFile (entry_view f)

abbrev pub unit_view : Unit → program.Unit
unit_view u = record {
  rules = rules_view u.rules;
  directories = map entry_view u.directories.items;
  files = map entry_view u.files.items;
  program = u.program.now;
}

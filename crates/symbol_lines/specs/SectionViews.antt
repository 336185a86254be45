-- Sections as their bytes.
use Rattle.symbol_lines.specs.declared.names.TableBytes.{TableBytes}
use Rattle.symbol_lines.specs.declared.text_sections.TextSections.{TextSections}
use Rattle.symbol_lines.specs.Frames.{Tables}
use Rattle.symbol_lines.specs.Paths as paths

abbrev pub sections_view : TextSections → paths.TextSections
sections_view s = record { strings = s.strings.bytes.now; line_strings = s.line_strings.bytes.now }

abbrev pub tables_view : TableBytes → Tables
tables_view t = record {
  symbols = t.symbols.now;
  strings = t.strings.now;
  lines = t.lines.now;
  texts = record { strings = t.debug_str.now; line_strings = t.debug_line_str.now };
}

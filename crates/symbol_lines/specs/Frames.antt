-- What is known of code places.
use Rattle.std.specs.Prelude.{ℕ, List, [], ◌∷◌, unwrap_or}
use Rattle.elf_image.specs.Sections.{symbol_tables, section}
use Rattle.symbol_lines.specs.FrameTexts.{FrameText}
use Rattle.symbol_lines.specs.Paths.{TextSections}
use Rattle.symbol_lines.specs.Symbols.{name_of}
use Rattle.symbol_lines.specs.Lines.{position_at, sequences}

-- the tables of a file that names are read from: a symbol table and its string table, the section .debug_line, and those
-- of the texts that it names
pub record Tables : Type 0 where
  pub symbols : List ℕ
  pub strings : List ℕ
  pub lines : List ℕ
  pub texts : TextSections

-- ".debug_line"
abbrev pub debug_line : List ℕ
debug_line = 46 ∷ 100 ∷ 101 ∷ 98 ∷ 117 ∷ 103 ∷ 95 ∷ 108 ∷ 105 ∷ 110 ∷ 101 ∷ []

-- ".debug_str"
abbrev pub debug_str : List ℕ
debug_str = 46 ∷ 100 ∷ 101 ∷ 98 ∷ 117 ∷ 103 ∷ 95 ∷ 115 ∷ 116 ∷ 114 ∷ []

-- ".debug_line_str"
abbrev pub debug_line_str : List ℕ
debug_line_str = 46 ∷ 100 ∷ 101 ∷ 98 ∷ 117 ∷ 103 ∷ 95 ∷ 108 ∷ 105 ∷ 110 ∷ 101 ∷ 95 ∷ 115 ∷ 116 ∷ 114 ∷ []

-- the bytes of a section, and none where a file has no such section
abbrev pub section_or_none : List ℕ → List ℕ → List ℕ
section_or_none file name = unwrap_or (section file name) []

-- a file's tables, and empty ones where it has none
abbrev pub tables_of : List ℕ → Tables
tables_of file = record {
  symbols = (unwrap_or (symbol_tables file) ([], [])).0;
  strings = (unwrap_or (symbol_tables file) ([], [])).1;
  lines = section_or_none file debug_line;
  texts = record {
    strings = section_or_none file debug_str;
    line_strings = section_or_none file debug_line_str;
  };
}

-- what the tables tell of a place
abbrev pub frame_in : Tables → ℕ → FrameText
frame_in t place = record {
  name = name_of t.symbols t.strings place;
  file = (position_at (sequences t.texts t.lines) place).file;
  line = (position_at (sequences t.texts t.lines) place).line;
}

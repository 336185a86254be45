-- What the entries of a line unit tell: paths, and the directories that they are in.
use Rattle.std.specs.Prelude.{ℕ, ◌==◌, Bool, List, drop, Option, Some}
use Rattle.std.specs.List.{list_any}
use Rattle.symbol_lines.specs.Reading.{◌>>=◌, text_at}

-- a path: bytes of the unit itself, or the offset of a text in a section
pub data Path : Type 0 where
  InUnit : List ℕ → Path
  -- in .debug_str
  InStrings : ℕ → Path
  -- in .debug_line_str
  InLineStrings : ℕ → Path

-- the sections .debug_str and .debug_line_str
pub record TextSections : Type 0 where
  pub strings : List ℕ
  pub line_strings : List ℕ

-- the text at an offset of a section ends there: a zero byte stands at the offset or behind it
abbrev pub has_text : List ℕ → ℕ → Bool
has_text section offset = list_any (λ b. b == 0) (drop offset section)

-- the text at an offset of a section, and none where it has no end there
abbrev pub section_text : List ℕ → ℕ → Option (List ℕ)
section_text section offset = text_at (drop offset section) >>= λ text. Some text.0

abbrev pub path_text : TextSections → Path → Option (List ℕ)
path_text s (InUnit text) = Some text
path_text s (InStrings offset) = section_text s.strings offset
path_text s (InLineStrings offset) = section_text s.line_strings offset

-- an entry of a unit's list of directories or of files
pub record Entry : Type 0 where
  -- none where no path is told
  pub path : Option Path
  -- the number of the directory that it is in
  pub directory : ℕ

-- the path of an entry as a text
abbrev pub entry_text : TextSections → Entry → Option (List ℕ)
entry_text s e = e.path >>= path_text s

-- Files and lines of places, from the section .debug_line (DWARF 2 to 5, "Line Number Information").
use Rattle.std.specs.Prelude.{ℕ, zero, suc, ◌-◌, ◌==◌, ◌||◌, ◌&&◌, not, Bool, nat_lt, nat_le, if◌then◌else◌, List, [], ◌∷◌, ◌++◌, length, map, find, slice_index, slice_get, unwrap_or, Option, Some, None}
use Rattle.std.specs.List.{list_any}
use Rattle.std.specs.Option.{option_map}
use Rattle.std.specs.Str.{is_utf8}
use Rattle.symbol_lines.specs.declared.rows.Row.{Row}
use Rattle.symbol_lines.specs.Reading.{◌>>=◌, word_at, long_at, bytes_at}
use Rattle.symbol_lines.specs.Paths.{TextSections, Entry, entry_text}
use Rattle.symbol_lines.specs.Program.{Unit, unit_at, Sequence, Machine, after_program}

-- a text that can be shown: UTF-8 without a byte below 0x20
abbrev pub is_shown : List ℕ → Bool
is_shown text = not (list_any (λ b. nat_lt b 0x20) text) && is_utf8 text

-- the text, and none where it can't be shown
abbrev pub shown : List ℕ → List ℕ
shown text = if is_shown text then text else []

-- The directories and files of a unit of version 2 to 4 are counted from 1, those of one of version 5 from 0.
abbrev pub first_number : ℕ → ℕ
first_number version = if nat_lt version 5 then 1 else 0

-- the text of the directory of this number, which isn't 0
abbrev pub directory_text : TextSections → ℕ → List Entry → ℕ → Option (List ℕ)
directory_text s first directories n = slice_get directories (n - first) >>= entry_text s

-- A file's text: its path alone where it is in directory 0 or begins with '/', and else behind its directory. None where
-- there is no path or no such directory.
abbrev pub path_of : TextSections → ℕ → List Entry → Entry → Option (List ℕ)
path_of s first directories f =
    entry_text s f >>= λ path.
    if f.directory == 0 || slice_index path 0 == 47 then Some path
    else option_map (λ d. d ++ 47 ∷ path) (directory_text s first directories f.directory)

abbrev pub shown_path : Option (List ℕ) → List ℕ
shown_path None = []
shown_path (Some path) = shown path

-- the texts of a unit's files, empty where one can't be shown, and the number of the first one
pub record FileList : Type 0 where
  pub first : ℕ
  pub texts : List (List ℕ)

-- a sequence with the files of its unit
pub record Lines : Type 0 where
  pub start : ℕ
  pub end : ℕ
  pub rows : List Row
  pub files : FileList

abbrev pub with_files : FileList → Sequence → Lines
with_files files s = record { start = s.start; end = s.end; rows = s.rows; files = files }

-- the files of a unit, and those that its program defines
abbrev pub file_list : TextSections → Unit → List Entry → FileList
file_list s u files = record {
  first = first_number u.rules.version;
  texts = map (λ f. shown_path (path_of s (first_number u.rules.version) u.directories f)) files;
}

-- the sequences of a unit whose program ended so
abbrev pub lines_after : TextSections → Unit → Option Machine → List Lines
lines_after s u None = []
lines_after s u (Some m) = map (with_files (file_list s u m.files)) m.sequences

abbrev pub lines_of : TextSections → Option Unit → List Lines
lines_of s None = []
lines_of s (Some u) = lines_after s u (after_program u)

-- The bytes of the next unit behind its length, and the bytes after it. None where a length is reserved or reaches past
-- the section, or nothing is left. Of a unit with a length of 64 bits nothing is read.
unfoldable pub next_unit : List ℕ → Option (List ℕ × List ℕ)
next_unit bs =
    word_at bs >>= λ len.
    if len.0 == 0xffffffff then
    (long_at len.1 >>= λ wide. bytes_at wide.0 wide.1 >>= λ unit. Some ([], unit.1))
    else if nat_le 0xfffffff0 len.0 then None
    else bytes_at len.0 len.1

-- the sequences of all units in reading order; so many bytes have at most so many units
unfoldable pub lines_in : TextSections → ℕ → List ℕ → List Lines
lines_in s zero bs = []
lines_in s (suc n) bs =
    unwrap_or (next_unit bs >>= λ unit. Some (lines_of s (unit_at s unit.0) ++ lines_in s n unit.1)) []

unfoldable pub sequences : TextSections → List ℕ → List Lines
sequences s section = lines_in s (length section) section

-- the last row at or below a place
abbrev pub row_from : Option Row → List Row → ℕ → Option Row
row_from row [] place = row
row_from row (r ∷ rs) place = row_from (if nat_le r.address place then Some r else row) rs place

abbrev pub row_at : List Row → ℕ → Option Row
row_at rows place = row_from None rows place

-- the sequence has the place
abbrev pub has_place : ℕ → Lines → Bool
has_place place s = nat_le s.start place && nat_lt place s.end

-- a file's text and a line; no text and 0 where nothing is known
pub record Position : Type 0 where
  pub file : List ℕ
  pub line : ℕ

abbrev pub unknown : Position
unknown = record { file = []; line = 0 }

-- the text of the file of this number
abbrev pub file_text : FileList → ℕ → Option (List ℕ)
file_text files n = if nat_lt n files.first then None else slice_get files.texts (n - files.first)

abbrev pub known : ℕ → Option (List ℕ) → Position
known line None = unknown
known line (Some file) = if length file == 0 then unknown else record { file = file; line = line }

abbrev pub position_in : Lines → Option Row → Position
position_in s None = unknown
position_in s (Some row) = known row.line (file_text s.files row.file)

abbrev pub position_of : Option Lines → ℕ → Position
position_of None place = unknown
position_of (Some s) place = position_in s (row_at s.rows place)

-- the position of a place: the first sequence that has it, and there the last row at or below it
unfoldable pub position_at : List Lines → ℕ → Position
position_at all place = position_of (find (has_place place) all) place

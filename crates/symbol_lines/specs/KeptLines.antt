-- Sequences of all units as they are kept: the rows that a place can have, and the texts of the files apart.
use Rattle.std.specs.Prelude.{◌≡◌, ℕ, ◌+◌, ◌-◌, ◌==◌, ◌||◌, if◌then◌else◌, List, [], ◌∷◌, ◌++◌, map, slice_index, slice_get, slice_index_or, Option, Some, None}
use Rattle.std.specs.Global.{Vec}
use Rattle.symbol_lines.specs.declared.frames.FileText.{FileText}
use Rattle.symbol_lines.specs.declared.paths.FileList.{FileList as Files}
use Rattle.symbol_lines.specs.declared.spans.Span.{Span}
use Rattle.symbol_lines.specs.FileTexts.{text_of}
use Rattle.symbol_lines.specs.Kept.{KeptSequence, kept_rows}
use Rattle.symbol_lines.specs.Reading.{◌>>=◌}
use Rattle.symbol_lines.specs.Paths.{Path, TextSections, path_text, Entry, entry_text}
use Rattle.symbol_lines.specs.Lines.{is_shown, FileList, Lines, Position}

abbrev pub kept_lines : Lines → Lines
kept_lines s = record { start = s.start; end = s.end; rows = kept_rows s.rows; files = s.files }

-- a kept sequence with the files of its unit
abbrev pub with_files : FileList → KeptSequence → Lines
with_files files s = record { start = s.start; end = s.end; rows = s.rows; files = files }

abbrev pub no_files : FileList
no_files = record { first = 0; texts = [] }

-- the same, by the number of its unit
abbrev pub resolved : List FileList → KeptSequence → Lines
resolved units s = with_files (slice_index_or units s.unit no_files) s

abbrev pub texts_view : Vec FileText → List (List ℕ)
texts_view texts = map text_of texts.items

abbrev pub files_view : Files → FileList
files_view files = record { first = files.first; texts = texts_view files.texts }

-- a text that can be shown
abbrev pub shown_or_none : List ℕ → Option (List ℕ)
shown_or_none text = if is_shown text then Some text else None

-- the text of a path, if it can be shown
abbrev pub path_or_none : TextSections → Path → Option (List ℕ)
path_or_none s path = path_text s path >>= shown_or_none

-- the path of an entry, if it is told and can be shown
abbrev pub shown_entry : TextSections → Entry → Option (List ℕ)
shown_entry s e = entry_text s e >>= shown_or_none

-- a path behind its directory, and nothing where there is no such directory or it can't be shown
abbrev pub in_directory : Option (Option (List ℕ)) → List ℕ → List ℕ
in_directory None path = []
in_directory (Some None) path = []
in_directory (Some (Some directory)) path = directory ++ 47 ∷ path

abbrev pub path_in : ℕ → List (Option (List ℕ)) → ℕ → Option (List ℕ) → List ℕ
path_in first directories n None = []
path_in first directories n (Some path) =
    if n == 0 || slice_index path 0 == 47 then path else in_directory (slice_get directories (n - first)) path

-- a file's text, by the directories of its unit of which each is kept if it can be shown
abbrev pub text_in : TextSections → ℕ → List (Option (List ℕ)) → Entry → List ℕ
text_in s first directories f = path_in first directories f.directory (shown_entry s f)

-- all are of unit k
abbrev pub UnitsAre : ℕ → List KeptSequence → Type 0
UnitsAre k [] = Unit {0}
UnitsAre k (s ∷ ss) = (s.unit ≡ k) × UnitsAre k ss

-- the ranges of sequences: each stands for its number, and the first one counts
abbrev pub numbered : ℕ → List KeptSequence → List Span
numbered k [] = []
numbered k (s ∷ ss) = record { start = s.start; size = s.end - s.start; rank = 0; item = k } ∷ numbered (k + 1) ss

-- a text that may be missing, and what a look-up answers
abbrev pub text_or_none : Option (List ℕ) → List ℕ
text_or_none None = []
text_or_none (Some text) = text

abbrev pub position_view : FileText × ℕ → Position
position_view x = record { file = text_of x.0; line = x.1 }

-- Texts of files.
use Rattle.std.specs.Prelude.{ℕ, List, ◌∷◌, ◌++◌, Option, Some, None}
use Rattle.std.specs.Borrow.{Bor}
use Rattle.symbol_lines.specs.declared.frames.FileText.{FileText}

-- a name behind its directory and '/', where it has a directory
abbrev pub behind : Option (Bor (List ℕ)) → List ℕ → List ℕ
behind None name = name
behind (Some directory) name = directory.now ++ 47 ∷ name

-- the text of a file that is kept in parts
abbrev pub text_of : FileText → List ℕ
text_of file = behind file.directory file.name.now

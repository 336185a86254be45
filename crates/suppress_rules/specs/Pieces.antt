-- Pieces of a pattern.
use Rattle.std.specs.Prelude.{ℕ, ◌==◌, if◌then◌else◌, List, [], ◌∷◌, length, drop, Option, Some, None}
use Rattle.std.specs.List.{starts_with}

-- what stands after the first place of a piece in a text, if the piece stands there
abbrev pub after_piece : List ℕ → List ℕ → Option (List ℕ)
after_piece piece [] = if starts_with ◌==◌ [] piece then Some [] else None
after_piece piece (c ∷ text) = if starts_with ◌==◌ (c ∷ text) piece then Some (drop (length piece) (c ∷ text)) else after_piece piece text

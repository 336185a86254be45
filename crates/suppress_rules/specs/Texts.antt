-- Texts in parts.
use Rattle.std.specs.Prelude.{ℕ, ◌==◌, ◌||◌, not, Bool, false, if◌then◌else◌, List, [], ◌∷◌, ◌++◌, length, drop, Option, Some, None}
use Rattle.std.specs.List.{starts_with}
use Rattle.suppress_rules.specs.declared.parts.Text.{Text}

-- the text that parts make
abbrev pub text_view : Text → List ℕ
text_view t = t.front.now ++ (t.middle.now ++ t.back.now)

-- the first byte and what follows it, if there is one
abbrev pub first_and_rest : List ℕ → Option (ℕ × List ℕ)
first_and_rest [] = None
first_and_rest (c ∷ text) = Some (c, text)

-- what stands behind a piece with which a text begins
abbrev pub behind : List ℕ → List ℕ → Option (List ℕ)
behind piece text = if starts_with ◌==◌ text piece then Some (drop (length piece) text) else None

-- nothing may be left where the end is bound
abbrev pub ends_there : Bool → Option (List ℕ) → Bool
ends_there bound None = false
ends_there bound (Some left) = not bound || (length left == 0)

-- Patterns, and the texts that they match.
use Rattle.std.specs.Prelude.{ℕ, ◌-◌, ◌==◌, ◌&&◌, ◌||◌, not, Bool, true, false, if◌then◌else◌, List, [], ◌∷◌, length, take, drop, codes}
use Rattle.std.specs.List.{starts_with, ends_with}

-- `*`
abbrev pub star : ℕ
star = 42

-- some end of the text passes the test; the whole text and the empty one are ends of it
abbrev pub some_end : (List ℕ → Bool) → List ℕ → Bool
some_end test [] = test []
some_end test (c ∷ text) = test (c ∷ text) || some_end test text

-- the text begins with the byte, and what follows it passes the test
abbrev pub byte_then : ℕ → (List ℕ → Bool) → List ℕ → Bool
byte_then b test [] = false
byte_then b test (c ∷ text) = (b == c) && test text

-- the text begins with what the pattern describes, and where its end is bound, also ends there: `*` stands for any text, also
-- none, and each other byte for itself
abbrev pub matches_body : Bool → List ℕ → List ℕ → Bool
matches_body bound [] text = not bound || (length text == 0)
matches_body bound (b ∷ pattern) text = if b == star then some_end (matches_body bound pattern) text else byte_then b (matches_body bound pattern) text

-- the text begins with what the pattern describes, whose `$`, where it is the last byte, binds the end
abbrev pub matches_here : List ℕ → List ℕ → Bool
matches_here pattern text = if ends_with ◌==◌ pattern (codes "$") then matches_body true (take (length pattern - 1) pattern) text else matches_body false pattern text

-- the pattern matches the text: at its beginning where the first byte is `^`, else anywhere; no pattern matches the empty text
abbrev pub matches : List ℕ → List ℕ → Bool
matches pattern text = not (length text == 0) && (if starts_with ◌==◌ pattern (codes "^") then matches_here (drop 1 pattern) text else some_end (matches_here pattern) text)

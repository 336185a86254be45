-- Where the texts in a section of texts end.
use Rattle.std.specs.Prelude.{◌≡◌, ℕ, ◌+◌, ◌-◌, ◌<◌, ◌≤◌, nat_lt, if◌then◌else◌, List, length, drop, slice_index, Option, Some, None}
use Rattle.std.specs.Option.{option_map}
use Rattle.symbol_lines.specs.Reading.{◌>>=◌, text_at}
use Rattle.symbol_lines.specs.Paths.{has_text, section_text}
use Rattle.symbol_lines.specs.Lines.{is_shown}
use Rattle.symbol_lines.specs.KeptLines.{shown_or_none}

-- the text at an offset of a section, if it has an end there and can be shown
abbrev pub shown_at : List ℕ → ℕ → Option (List ℕ)
shown_at section offset = section_text section offset >>= shown_or_none

-- how long the text is, if it can be shown
abbrev pub shown_len : Option (List ℕ × List ℕ) → Option ℕ
shown_len None = None
shown_len (Some text) = if is_shown text.0 then Some (length text.0) else None

-- how long the name at the front of bytes is, if it has an end and can be shown
abbrev pub name_len : List ℕ → Option ℕ
name_len bytes = shown_len (text_at bytes)

-- where the name at an offset of a string table ends
abbrev pub name_end : List ℕ → ℕ → Option ℕ
name_end strings offset = option_map (λ len. offset + len) (name_len (drop offset strings))

-- a place of the table, and none past it
abbrev pub place_in : List ℕ → ℕ → Option ℕ
place_in strings end = if nat_lt end (length strings) then Some end else None

-- the ends of the names at the offsets from the last one down
pub record HasEnds (strings ends : List ℕ) : Type 0 where
  pub shorter : length ends ≤ length strings
  pub each : (k : ℕ) → k < length ends → place_in strings (slice_index ends k) ≡ name_end strings (length strings - 1 - k)

-- the first place behind an offset that isn't inside a character
pub record IsBoundary (strings : List ℕ) (offset boundary : ℕ) : Type 0 where
  pub above : offset < boundary
  pub within : boundary ≤ length strings
  pub inside : (k : ℕ) → offset < k → k < boundary → 128 ≤ slice_index strings k
  pub first : boundary < length strings → 128 ≤ slice_index strings boundary → 192 ≤ slice_index strings boundary

-- the ends are those of the texts at all offsets
pub record HasNames (strings ends : List ℕ) : Type 0 where
  pub found : HasEnds strings ends
  pub all : length ends ≡ length strings

-- the texts at the offsets below a place have an end, and no others
pub record HasTextsBelow (section : List ℕ) (place : ℕ) : Type 0 where
  pub each : (offset : ℕ) → nat_lt offset place ≡ has_text section offset

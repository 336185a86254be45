-- Functions of a symbol table (System V ABI, "Symbol Table"; ELF-64 symbols of 24 bytes).
use Rattle.std.specs.Prelude.{ℕ, ◌+◌, ◌*◌, ◌/◌, ◌%◌, ◌==◌, ◌&&◌, Bool, nat_lt, nat_le, if◌then◌else◌, List, [], ◌∷◌, length, drop, map, filter, slice_index, Option, Some, None}
use Rattle.std.specs.List.{range_with_len}
use Rattle.elf_image.specs.Bytes.{u32_at, u64_at}
use Rattle.symbol_lines.specs.Reading.{text_at}
use Rattle.symbol_lines.specs.Lines.{shown}

-- a symbol: its type in the low bits of st_info, st_value, st_size, and st_name, an offset into the string table
pub record Symbol : Type 0 where
  pub kind : ℕ
  pub start : ℕ
  pub size : ℕ
  pub name : ℕ

-- symbol k
abbrev pub symbol_at : List ℕ → ℕ → Symbol
symbol_at table k = record {
  kind = slice_index table (24 * k + 4) % 16;
  start = u64_at table (24 * k + 8);
  size = u64_at table (24 * k + 16);
  name = u32_at table (24 * k);
}

-- a symbol of type STT_FUNC
abbrev pub is_function : Symbol → Bool
is_function s = s.kind == 2

-- the functions in the table's order; bytes behind the last whole symbol are passed over
unfoldable pub functions : List ℕ → List Symbol
functions table = filter is_function (map (symbol_at table) (range_with_len 0 (length table / 24)))

-- the place stands in the function
abbrev pub holds : Symbol → ℕ → Bool
holds f place = nat_le f.start place && nat_lt place (f.start + f.size)

-- the first function, unless the other begins above it
abbrev pub later : Symbol → Option Symbol → Symbol
later f None = f
later f (Some g) = if nat_lt f.start g.start then g else f

-- of the functions that have a place the one with the greatest start, and the first of these
abbrev pub function_over : List Symbol → ℕ → Option Symbol
function_over [] place = None
function_over (f ∷ fs) place =
    if holds f place then Some (later f (function_over fs place)) else function_over fs place

-- the text at an offset of the string table, and none where it has no end in the table or can't be shown
abbrev pub shown_text : Option (List ℕ × List ℕ) → List ℕ
shown_text None = []
shown_text (Some text) = shown text.0

abbrev pub name_at : List ℕ → ℕ → List ℕ
name_at strings at = shown_text (text_at (drop at strings))

abbrev pub name_in : List ℕ → Option Symbol → List ℕ
name_in strings None = []
name_in strings (Some f) = name_at strings f.name

-- the name of the function over a place, by a symbol table and its string table
unfoldable pub name_of : List ℕ → List ℕ → ℕ → List ℕ
name_of symbols strings place = name_in strings (function_over (functions symbols) place)

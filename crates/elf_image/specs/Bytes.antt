-- Little-endian numbers, in a file and in any bytes that a function gives.
use Rattle.std.specs.Prelude.{ℕ, ◌+◌, ◌*◌, ◌^◌, List, slice_index}

abbrev pub u16_at : List ℕ → ℕ → ℕ
u16_at bytes at = slice_index bytes at + slice_index bytes (at + 1) * 2 ^ 8

abbrev pub u32_at : List ℕ → ℕ → ℕ
u32_at bytes at = u16_at bytes at + u16_at bytes (at + 2) * 2 ^ 16

abbrev pub u64_at : List ℕ → ℕ → ℕ
u64_at bytes at = u32_at bytes at + u32_at bytes (at + 4) * 2 ^ 32

-- the number of the four bytes from an address on, and of the eight
unfoldable pub word_of : (ℕ → ℕ) → ℕ → ℕ
word_of byte a = byte a + byte (a + 1) * 2 ^ 8 + (byte (a + 2) + byte (a + 3) * 2 ^ 8) * 2 ^ 16

unfoldable pub long_of : (ℕ → ℕ) → ℕ → ℕ
long_of byte a = word_of byte a + word_of byte (a + 4) * 2 ^ 32

-- Some bytes of a granule's word. A word's bytes are counted from the least.
use Rattle.std.specs.Prelude.{ℕ, ◌+◌, ◌*◌, ◌/◌, ◌%◌, ◌^◌, ◌≤◌}

-- the number that so many bytes make, from byte `offset` on
abbrev pub field : ℕ → ℕ → ℕ → ℕ
field word offset size = word / 2 ^ (8 * offset) % 2 ^ (8 * size)

-- the word with the value's low bytes there: the bytes above, the value's, the bytes below
abbrev pub with_field : ℕ → ℕ → ℕ → ℕ → ℕ
with_field word offset size value =
    word / 2 ^ (8 * size + 8 * offset) * 2 ^ (8 * size + 8 * offset) + (value % 2 ^ (8 * size) * 2 ^ (8 * offset) + word % 2 ^ (8 * offset))

-- the bytes lie in the word
pub record IsField (offset size : ℕ) : Type 0 where
  pub some : 1 ≤ size
  pub within : offset + size ≤ 8

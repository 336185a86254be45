-- Numbers and texts at the front of bytes, as the DWARF standards spell them: each definition gives what was read and
-- the bytes after it, and None where they are malformed.
use Rattle.std.specs.Prelude.{ℕ, zero, suc, ◌+◌, ◌-◌, ◌*◌, ◌%◌, ◌^◌, ◌==◌, nat_lt, if◌then◌else◌, List, [], ◌∷◌, length, take, drop, Option, Some, None}
use Rattle.elf_image.specs.Bytes.{u16_at, u32_at, u64_at}

infixl 10 ◌>>=◌
abbrev pub ◌>>=◌ : {A B : Type 0} → Option A → (A → Option B) → Option B
None >>= f = None
(Some x) >>= f = f x

abbrev pub byte_at : List ℕ → Option (ℕ × List ℕ)
byte_at [] = None
byte_at (b ∷ bs) = Some (b, bs)

-- little-endian numbers of two, four and eight bytes
abbrev pub half_at : List ℕ → Option (ℕ × List ℕ)
half_at bs = if nat_lt (length bs) 2 then None else Some (u16_at bs 0, drop 2 bs)

abbrev pub word_at : List ℕ → Option (ℕ × List ℕ)
word_at bs = if nat_lt (length bs) 4 then None else Some (u32_at bs 0, drop 4 bs)

abbrev pub long_at : List ℕ → Option (ℕ × List ℕ)
long_at bs = if nat_lt (length bs) 8 then None else Some (u64_at bs 0, drop 8 bs)

-- so many bytes
abbrev pub bytes_at : ℕ → List ℕ → Option (List ℕ × List ℕ)
bytes_at n bs = if nat_lt (length bs) n then None else Some (take n bs, drop n bs)

-- A ULEB128 number of at most so many bytes: seven bits in each, the low ones first, and bit 7 where more follow.
unfoldable pub uleb_within : ℕ → List ℕ → Option (ℕ × List ℕ)
uleb_within zero bs = None
uleb_within (suc n) [] = None
uleb_within (suc n) (b ∷ bs) =
    if nat_lt b 128 then Some (b, bs)
    else uleb_within n bs >>= λ high.
    if nat_lt high.0 (2 ^ 57) then Some (b - 128 + 128 * high.0, high.1) else None

-- of at most ten bytes and 64 bits
abbrev pub uleb_at : List ℕ → Option (ℕ × List ℕ)
uleb_at bs = uleb_within 10 bs

-- An SLEB128 number, kept modulo 2^64: bit 6 of the last byte is the sign. The tenth byte can only repeat the sign.
unfoldable pub sleb_within : ℕ → List ℕ → Option (ℕ × List ℕ)
sleb_within zero bs = None
sleb_within (suc n) [] = None
sleb_within (suc n) (b ∷ bs) =
    if n == 0 then
    (if b == 0 then Some (0, bs) else if b == 127 then Some (2 ^ 64 - 1, bs) else None)
    else if nat_lt b 64 then Some (b, bs)
    else if nat_lt b 128 then Some (2 ^ 64 - 128 + b, bs)
    else sleb_within n bs >>= λ high. Some ((b - 128 + 128 * high.0) % 2 ^ 64, high.1)

abbrev pub sleb_at : List ℕ → Option (ℕ × List ℕ)
sleb_at bs = sleb_within 10 bs

-- a text that a zero byte ends
abbrev pub text_at : List ℕ → Option (List ℕ × List ℕ)
text_at [] = None
text_at (b ∷ bs) = if b == 0 then Some ([], bs) else text_at bs >>= λ t. Some (b ∷ t.0, t.1)

-- so many things one after another, each of them read so
unfoldable pub list_at : {A : Type 0} → (List ℕ → Option (A × List ℕ)) → ℕ → List ℕ → Option (List A × List ℕ)
list_at read zero bs = Some ([], bs)
list_at read (suc n) bs = read bs >>= λ first. list_at read n first.1 >>= λ others. Some (first.0 ∷ others.0, others.1)

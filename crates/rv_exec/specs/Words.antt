-- Words of 64 and 32 bits as numbers, and what the RISC-V unprivileged manual computes of them (RV64I and M).
-- A signed number is the word's two's complement.
use Rattle.std.specs.Prelude.{ℕ, ◌+◌, ◌-◌, ◌*◌, ◌/◌, ◌%◌, ◌^◌, ◌==◌, nat_lt, Bool, if◌then◌else◌, ℤ, pos, ◌*ℤ◌, int_div, int_rem, int_lt}
use Rattle.std.specs.Int.{Width, w32, w64, cast_signed, cast_unsigned, int_shr}

-- modulo 2^64
abbrev pub wrap : ℕ → ℕ
wrap n = n % 2 ^ 64

-- the signed number that a word is, and the word of a signed number
abbrev pub signed : ℕ → ℤ
signed n = cast_signed w64 n

abbrev pub word : ℤ → ℕ
word z = cast_unsigned w64 z

-- the low n bytes
abbrev pub low_bytes : ℕ → ℕ → ℕ
low_bytes n w = w % 2 ^ (8 * n)

-- the same for 32 bits: the low half of a word, and the numbers that it is
abbrev pub low : ℕ → ℕ
low n = n % 2 ^ 32

abbrev pub low_signed : ℕ → ℤ
low_signed n = cast_signed w32 (low n)

-- a number of w bits, sign-extended
abbrev pub extend : Width → ℕ → ℕ
extend w n = word (cast_signed w n)

abbrev pub all_ones : ℕ
all_ones = 2 ^ 64 - 1

abbrev pub flag : Bool → ℕ
flag b = if b then 1 else 0

-- ---- RV64I: a shift is by the low six bits of b, and by the low five in the forms on 32 bits

abbrev pub add : ℕ → ℕ → ℕ
add a b = wrap (a + b)

abbrev pub sub : ℕ → ℕ → ℕ
sub a b = wrap (a + (2 ^ 64 - b))

abbrev pub shift_left : ℕ → ℕ → ℕ
shift_left a b = wrap (a * 2 ^ (b % 64))

abbrev pub shift_right : ℕ → ℕ → ℕ
shift_right a b = a / 2 ^ (b % 64)

abbrev pub shift_right_signed : ℕ → ℕ → ℕ
shift_right_signed a b = word (int_shr (signed a) (b % 64))

abbrev pub less : ℕ → ℕ → ℕ
less a b = flag (int_lt (signed a) (signed b))

abbrev pub less_unsigned : ℕ → ℕ → ℕ
less_unsigned a b = flag (nat_lt a b)

abbrev pub add_w : ℕ → ℕ → ℕ
add_w a b = extend w32 ((low a + low b) % 2 ^ 32)

abbrev pub sub_w : ℕ → ℕ → ℕ
sub_w a b = extend w32 ((low a + (2 ^ 32 - low b)) % 2 ^ 32)

abbrev pub shift_left_w : ℕ → ℕ → ℕ
shift_left_w a b = extend w32 ((low a * 2 ^ (b % 32)) % 2 ^ 32)

abbrev pub shift_right_w : ℕ → ℕ → ℕ
shift_right_w a b = extend w32 (low a / 2 ^ (b % 32))

abbrev pub shift_right_signed_w : ℕ → ℕ → ℕ
shift_right_signed_w a b = word (int_shr (low_signed a) (b % 32))

-- ---- M: division by zero gives all ones and leaves the dividend; the least number divided by -1 is 2^63 (2^31), whose word is the least number

abbrev pub multiply : ℕ → ℕ → ℕ
multiply a b = wrap (a * b)

-- the upper half of the product of signed numbers, of a signed and an unsigned one, and of unsigned numbers
abbrev pub multiply_high : ℕ → ℕ → ℕ
multiply_high a b = word (int_shr ((signed a) *ℤ (signed b)) 64)

abbrev pub multiply_high_mixed : ℕ → ℕ → ℕ
multiply_high_mixed a b = word (int_shr ((signed a) *ℤ (pos b)) 64)

abbrev pub multiply_high_unsigned : ℕ → ℕ → ℕ
multiply_high_unsigned a b = a * b / 2 ^ 64

abbrev pub divide : ℕ → ℕ → ℕ
divide a b = if b == 0 then all_ones else word (int_div (signed a) (signed b))

abbrev pub divide_unsigned : ℕ → ℕ → ℕ
divide_unsigned a b = if b == 0 then all_ones else a / b

abbrev pub remainder : ℕ → ℕ → ℕ
remainder a b = if b == 0 then a else word (int_rem (signed a) (signed b))

abbrev pub remainder_unsigned : ℕ → ℕ → ℕ
remainder_unsigned a b = if b == 0 then a else a % b

abbrev pub multiply_w : ℕ → ℕ → ℕ
multiply_w a b = extend w32 ((low a * low b) % 2 ^ 32)

abbrev pub divide_w : ℕ → ℕ → ℕ
divide_w a b = if low b == 0 then all_ones else extend w32 (cast_unsigned w32 (int_div (low_signed a) (low_signed b)))

abbrev pub divide_unsigned_w : ℕ → ℕ → ℕ
divide_unsigned_w a b = if low b == 0 then all_ones else extend w32 (low a / low b)

abbrev pub remainder_w : ℕ → ℕ → ℕ
remainder_w a b = if low b == 0 then extend w32 (low a) else word (int_rem (low_signed a) (low_signed b))

abbrev pub remainder_unsigned_w : ℕ → ℕ → ℕ
remainder_unsigned_w a b = if low b == 0 then extend w32 (low a) else extend w32 (low a % low b)

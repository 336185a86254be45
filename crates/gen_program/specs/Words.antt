-- The instruction words that generated programs have, by the formats U, I and J of the RISC-V unprivileged manual.
-- An immediate is given as the bits of its field.
use Rattle.std.specs.Prelude.{ℕ, ◌+◌, ◌*◌, ◌/◌, ◌%◌, ◌^◌}

-- lui rd, upper
unfoldable pub lui : ℕ → ℕ → ℕ
lui rd upper = 0x37 + rd * 2 ^ 7 + upper * 2 ^ 12

-- addi rd, rs1, immediate
unfoldable pub addi : ℕ → ℕ → ℕ → ℕ
addi rd rs1 immediate = 0x13 + rd * 2 ^ 7 + rs1 * 2 ^ 15 + immediate * 2 ^ 20

-- jal x1, +4
unfoldable pub jal_next : ℕ
jal_next = 0x6f + 1 * 2 ^ 7 + 2 * 2 ^ 21

unfoldable pub ecall : ℕ
ecall = 0x73

-- the immediates by which a `lui` and then an `addi` give an address
abbrev pub high : ℕ → ℕ
high address = (address + 0x800) / 0x1000

abbrev pub low : ℕ → ℕ
low address = address % 0x1000

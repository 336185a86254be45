-- The fields of an instruction word, as the RISC-V unprivileged manual lays them out. Bits are numbered from 0, the least.
use Rattle.std.specs.Prelude.{ℕ, ◌+◌, ◌-◌, ◌*◌, ◌/◌, ◌%◌, ◌^◌, nat_lt, if◌then◌else◌, ℤ, pos, ◌-ℤ◌}
use Rattle.rv_decode.specs.declared.instr.Op.{Op}
use Rattle.rv_decode.specs.declared.instr.Instr.{Instr}

-- n bits of a word from bit k on
abbrev pub bits : ℕ → ℕ → ℕ → ℕ
bits w k n = w / 2 ^ k % 2 ^ n

-- an n-bit number, sign-extended
abbrev pub signed : ℕ → ℕ → ℤ
signed n v = if nat_lt v (2 ^ (n - 1)) then pos v else (pos v) -ℤ (pos (2 ^ n))

abbrev pub opcode : ℕ → ℕ
opcode w = bits w 0 7

abbrev pub rd : ℕ → ℕ
rd w = bits w 7 5

abbrev pub rs1 : ℕ → ℕ
rs1 w = bits w 15 5

abbrev pub rs2 : ℕ → ℕ
rs2 w = bits w 20 5

-- the immediates of the forms I, S, B, U and J
abbrev pub imm_i : ℕ → ℤ
imm_i w = signed 12 (bits w 20 12)

abbrev pub imm_s : ℕ → ℤ
imm_s w = signed 12 (bits w 7 5 + bits w 25 7 * 2 ^ 5)

abbrev pub imm_b : ℕ → ℤ
imm_b w = signed 13 (bits w 7 1 * 2 ^ 11 + bits w 8 4 * 2 + bits w 25 6 * 2 ^ 5 + bits w 31 1 * 2 ^ 12)

abbrev pub imm_u : ℕ → ℤ
imm_u w = signed 32 (bits w 12 20 * 2 ^ 12)

abbrev pub imm_j : ℕ → ℤ
imm_j w = signed 21 (bits w 21 10 * 2 + bits w 20 1 * 2 ^ 11 + bits w 12 8 * 2 ^ 12 + bits w 31 1 * 2 ^ 20)

-- Which fields a word has. A field that it lacks is 0.
pub data Form : Type 0 where
  -- rd, rs1 and rs2
  r_form : Form
  -- rd, rs1 and the immediate I
  i_form : Form
  -- rd, rs1 and a shift amount of 6 or of 5 bits
  shift_form : Form
  shift_w_form : Form
  -- rs1, rs2 and the immediate S or B
  s_form : Form
  b_form : Form
  -- rd and the immediate U or J
  u_form : Form
  j_form : Form
  -- none
  bare_form : Form

abbrev pub bare : Op → Instr
bare op = record { op = op; rd = 0; rs1 = 0; rs2 = 0; imm = pos 0 }

-- the instruction whose fields stand in the word in this form
abbrev pub fields : Form → Op → ℕ → Instr
fields r_form op w = record { op = op; rd = rd w; rs1 = rs1 w; rs2 = rs2 w; imm = pos 0 }
fields i_form op w = record { op = op; rd = rd w; rs1 = rs1 w; rs2 = 0; imm = imm_i w }
fields shift_form op w = record { op = op; rd = rd w; rs1 = rs1 w; rs2 = 0; imm = pos (bits w 20 6) }
fields shift_w_form op w = record { op = op; rd = rd w; rs1 = rs1 w; rs2 = 0; imm = pos (bits w 20 5) }
fields s_form op w = record { op = op; rd = 0; rs1 = rs1 w; rs2 = rs2 w; imm = imm_s w }
fields b_form op w = record { op = op; rd = 0; rs1 = rs1 w; rs2 = rs2 w; imm = imm_b w }
fields u_form op w = record { op = op; rd = rd w; rs1 = 0; rs2 = 0; imm = imm_u w }
fields j_form op w = record { op = op; rd = rd w; rs1 = 0; rs2 = 0; imm = imm_j w }
fields bare_form op w = bare op

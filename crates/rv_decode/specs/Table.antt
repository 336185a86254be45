-- The instruction table of RV64I with the extensions M and A, after the RISC-V unprivileged manual: one row an instruction.
-- A word is an instruction exactly where a row matches it.
use Rattle.std.specs.Prelude.{◌<◌, ℕ, ◌==◌, ◌&&◌, Bool, List, [], ◌∷◌, ◌++◌, Option, find}
use Rattle.std.specs.List.{list_all}
use Rattle.std.specs.Option.{option_map}
use Rattle.rv_decode.specs.declared.instr.Op.{Op}
use Rattle.rv_decode.specs.declared.instr.Op.TheVariants as ops
use Rattle.rv_decode.specs.declared.instr.Instr.{Instr}
use Rattle.rv_decode.specs.Fields.{bits, opcode, Form, r_form, i_form, shift_form, shift_w_form, s_form, b_form, u_form, j_form, bare_form, fields}

-- `count` bits from bit `from` on have this value
pub record Fixed : Type 0 where
  pub from : ℕ
  pub count : ℕ
  pub value : ℕ

-- an instruction, its opcode, the other bits that are fixed, and the form of its fields
pub record Row : Type 0 where
  pub op : Op
  pub form : Form
  pub opcode : ℕ
  pub fixed : List Fixed

abbrev pub has : ℕ → Fixed → Bool
has w f = bits w f.from f.count == f.value

abbrev pub matches : ℕ → Row → Bool
matches w row = (opcode w == row.opcode) && list_all (has w) row.fixed

-- the columns of the table
abbrev pub funct3 : ℕ → Fixed
funct3 v = record { from = 12; count = 3; value = v }

abbrev pub funct7 : ℕ → Fixed
funct7 v = record { from = 25; count = 7; value = v }

abbrev pub funct6 : ℕ → Fixed
funct6 v = record { from = 26; count = 6; value = v }

abbrev pub funct5 : ℕ → Fixed
funct5 v = record { from = 27; count = 5; value = v }

abbrev pub no_rs2 : Fixed
no_rs2 = record { from = 20; count = 5; value = 0 }

-- all bits above the opcode
abbrev pub above_opcode : ℕ → Fixed
above_opcode v = record { from = 7; count = 25; value = v }

abbrev pub row : Form → ℕ → Op → List Fixed → Row
row form opcode op fixed = record { op = op; form = form; opcode = opcode; fixed = fixed }

-- a constant of 20 bits
abbrev pub upper : List Row
upper =
    row u_form 0x37 ops.Lui [] ∷
    row u_form 0x17 ops.Auipc [] ∷
    []

abbrev pub jumps : List Row
jumps =
    row j_form 0x6f ops.Jal [] ∷
    row i_form 0x67 ops.Jalr (funct3 0 ∷ []) ∷
    []

abbrev pub branches : List Row
branches =
    row b_form 0x63 ops.Beq (funct3 0 ∷ []) ∷
    row b_form 0x63 ops.Bne (funct3 1 ∷ []) ∷
    row b_form 0x63 ops.Blt (funct3 4 ∷ []) ∷
    row b_form 0x63 ops.Bge (funct3 5 ∷ []) ∷
    row b_form 0x63 ops.Bltu (funct3 6 ∷ []) ∷
    row b_form 0x63 ops.Bgeu (funct3 7 ∷ []) ∷
    []

abbrev pub loads : List Row
loads =
    row i_form 0x03 ops.Lb (funct3 0 ∷ []) ∷
    row i_form 0x03 ops.Lh (funct3 1 ∷ []) ∷
    row i_form 0x03 ops.Lw (funct3 2 ∷ []) ∷
    row i_form 0x03 ops.Ld (funct3 3 ∷ []) ∷
    row i_form 0x03 ops.Lbu (funct3 4 ∷ []) ∷
    row i_form 0x03 ops.Lhu (funct3 5 ∷ []) ∷
    row i_form 0x03 ops.Lwu (funct3 6 ∷ []) ∷
    []

abbrev pub stores : List Row
stores =
    row s_form 0x23 ops.Sb (funct3 0 ∷ []) ∷
    row s_form 0x23 ops.Sh (funct3 1 ∷ []) ∷
    row s_form 0x23 ops.Sw (funct3 2 ∷ []) ∷
    row s_form 0x23 ops.Sd (funct3 3 ∷ []) ∷
    []

-- with an immediate; the shifts have bits 26 to 31 fixed
abbrev pub immediates : List Row
immediates =
    row i_form 0x13 ops.Addi (funct3 0 ∷ []) ∷
    row i_form 0x13 ops.Slti (funct3 2 ∷ []) ∷
    row i_form 0x13 ops.Sltiu (funct3 3 ∷ []) ∷
    row i_form 0x13 ops.Xori (funct3 4 ∷ []) ∷
    row i_form 0x13 ops.Ori (funct3 6 ∷ []) ∷
    row i_form 0x13 ops.Andi (funct3 7 ∷ []) ∷
    row shift_form 0x13 ops.Slli (funct3 1 ∷ funct6 0 ∷ []) ∷
    row shift_form 0x13 ops.Srli (funct3 5 ∷ funct6 0 ∷ []) ∷
    row shift_form 0x13 ops.Srai (funct3 5 ∷ funct6 0x10 ∷ []) ∷
    []

-- the same on 32 bits; the shifts have bits 25 to 31 fixed
abbrev pub immediates_w : List Row
immediates_w =
    row i_form 0x1b ops.Addiw (funct3 0 ∷ []) ∷
    row shift_w_form 0x1b ops.Slliw (funct3 1 ∷ funct7 0 ∷ []) ∷
    row shift_w_form 0x1b ops.Srliw (funct3 5 ∷ funct7 0 ∷ []) ∷
    row shift_w_form 0x1b ops.Sraiw (funct3 5 ∷ funct7 0x20 ∷ []) ∷
    []

-- with two registers; M has 1 in bits 25 to 31
abbrev pub registers : List Row
registers =
    row r_form 0x33 ops.Add (funct7 0 ∷ funct3 0 ∷ []) ∷
    row r_form 0x33 ops.Sll (funct7 0 ∷ funct3 1 ∷ []) ∷
    row r_form 0x33 ops.Slt (funct7 0 ∷ funct3 2 ∷ []) ∷
    row r_form 0x33 ops.Sltu (funct7 0 ∷ funct3 3 ∷ []) ∷
    row r_form 0x33 ops.Xor (funct7 0 ∷ funct3 4 ∷ []) ∷
    row r_form 0x33 ops.Srl (funct7 0 ∷ funct3 5 ∷ []) ∷
    row r_form 0x33 ops.Or (funct7 0 ∷ funct3 6 ∷ []) ∷
    row r_form 0x33 ops.And (funct7 0 ∷ funct3 7 ∷ []) ∷
    row r_form 0x33 ops.Sub (funct7 0x20 ∷ funct3 0 ∷ []) ∷
    row r_form 0x33 ops.Sra (funct7 0x20 ∷ funct3 5 ∷ []) ∷
    row r_form 0x33 ops.Mul (funct7 0x01 ∷ funct3 0 ∷ []) ∷
    row r_form 0x33 ops.Mulh (funct7 0x01 ∷ funct3 1 ∷ []) ∷
    row r_form 0x33 ops.Mulhsu (funct7 0x01 ∷ funct3 2 ∷ []) ∷
    row r_form 0x33 ops.Mulhu (funct7 0x01 ∷ funct3 3 ∷ []) ∷
    row r_form 0x33 ops.Div (funct7 0x01 ∷ funct3 4 ∷ []) ∷
    row r_form 0x33 ops.Divu (funct7 0x01 ∷ funct3 5 ∷ []) ∷
    row r_form 0x33 ops.Rem (funct7 0x01 ∷ funct3 6 ∷ []) ∷
    row r_form 0x33 ops.Remu (funct7 0x01 ∷ funct3 7 ∷ []) ∷
    []

-- the same on 32 bits
abbrev pub registers_w : List Row
registers_w =
    row r_form 0x3b ops.Addw (funct7 0 ∷ funct3 0 ∷ []) ∷
    row r_form 0x3b ops.Sllw (funct7 0 ∷ funct3 1 ∷ []) ∷
    row r_form 0x3b ops.Srlw (funct7 0 ∷ funct3 5 ∷ []) ∷
    row r_form 0x3b ops.Subw (funct7 0x20 ∷ funct3 0 ∷ []) ∷
    row r_form 0x3b ops.Sraw (funct7 0x20 ∷ funct3 5 ∷ []) ∷
    row r_form 0x3b ops.Mulw (funct7 0x01 ∷ funct3 0 ∷ []) ∷
    row r_form 0x3b ops.Divw (funct7 0x01 ∷ funct3 4 ∷ []) ∷
    row r_form 0x3b ops.Divuw (funct7 0x01 ∷ funct3 5 ∷ []) ∷
    row r_form 0x3b ops.Remw (funct7 0x01 ∷ funct3 6 ∷ []) ∷
    row r_form 0x3b ops.Remuw (funct7 0x01 ∷ funct3 7 ∷ []) ∷
    []

-- of the fence all other bits are ignored
abbrev pub fence : List Row
fence =
    row bare_form 0x0f ops.Fence (funct3 0 ∷ []) ∷
    []

-- ECALL and EBREAK are one word each
abbrev pub system : List Row
system =
    row bare_form 0x73 ops.Ecall (above_opcode 0 ∷ []) ∷
    row bare_form 0x73 ops.Ebreak (above_opcode 0x2000 ∷ []) ∷
    []

-- A on 4 bytes; bits 25 and 26, which order memory, are ignored
abbrev pub atomics_w : List Row
atomics_w =
    row r_form 0x2f ops.LrW (funct3 2 ∷ funct5 0x02 ∷ no_rs2 ∷ []) ∷
    row r_form 0x2f ops.ScW (funct3 2 ∷ funct5 0x03 ∷ []) ∷
    row r_form 0x2f ops.AmoswapW (funct3 2 ∷ funct5 0x01 ∷ []) ∷
    row r_form 0x2f ops.AmoaddW (funct3 2 ∷ funct5 0 ∷ []) ∷
    row r_form 0x2f ops.AmoxorW (funct3 2 ∷ funct5 0x04 ∷ []) ∷
    row r_form 0x2f ops.AmoandW (funct3 2 ∷ funct5 0x0c ∷ []) ∷
    row r_form 0x2f ops.AmoorW (funct3 2 ∷ funct5 0x08 ∷ []) ∷
    row r_form 0x2f ops.AmominW (funct3 2 ∷ funct5 0x10 ∷ []) ∷
    row r_form 0x2f ops.AmomaxW (funct3 2 ∷ funct5 0x14 ∷ []) ∷
    row r_form 0x2f ops.AmominuW (funct3 2 ∷ funct5 0x18 ∷ []) ∷
    row r_form 0x2f ops.AmomaxuW (funct3 2 ∷ funct5 0x1c ∷ []) ∷
    []

-- A on 8 bytes
abbrev pub atomics_d : List Row
atomics_d =
    row r_form 0x2f ops.LrD (funct3 3 ∷ funct5 0x02 ∷ no_rs2 ∷ []) ∷
    row r_form 0x2f ops.ScD (funct3 3 ∷ funct5 0x03 ∷ []) ∷
    row r_form 0x2f ops.AmoswapD (funct3 3 ∷ funct5 0x01 ∷ []) ∷
    row r_form 0x2f ops.AmoaddD (funct3 3 ∷ funct5 0 ∷ []) ∷
    row r_form 0x2f ops.AmoxorD (funct3 3 ∷ funct5 0x04 ∷ []) ∷
    row r_form 0x2f ops.AmoandD (funct3 3 ∷ funct5 0x0c ∷ []) ∷
    row r_form 0x2f ops.AmoorD (funct3 3 ∷ funct5 0x08 ∷ []) ∷
    row r_form 0x2f ops.AmominD (funct3 3 ∷ funct5 0x10 ∷ []) ∷
    row r_form 0x2f ops.AmomaxD (funct3 3 ∷ funct5 0x14 ∷ []) ∷
    row r_form 0x2f ops.AmominuD (funct3 3 ∷ funct5 0x18 ∷ []) ∷
    row r_form 0x2f ops.AmomaxuD (funct3 3 ∷ funct5 0x1c ∷ []) ∷
    []

abbrev pub table : List Row
table = upper ++ jumps ++ branches ++ loads ++ stores ++ immediates ++ immediates_w ++ registers ++ registers_w ++ fence ++ system ++ atomics_w ++ atomics_d

-- the instruction that a row makes of a word
abbrev pub made_by : ℕ → Row → Instr
made_by w r = fields r.form r.op w

-- the instruction by the first of some rows that matches
abbrev pub found : List Row → ℕ → Option Instr
found rows w = option_map (made_by w) (find (matches w) rows)

-- the word's instruction, if it is one
unfoldable pub instr_of : ℕ → Option Instr
instr_of w = found table w

-- an instruction whose register numbers are those of registers, as `decode` gives
pub record IsInstr (i : Instr) : Type 0 where
  pub rd : i.rd < 32
  pub rs1 : i.rs1 < 32
  pub rs2 : i.rs2 < 32

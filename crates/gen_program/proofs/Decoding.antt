-- The fields of the words, and so the rows of the instruction table that match them.
use Rattle.std.proofs.Common.{◌≡◌, ℕ, ◌+◌, ◌*◌, ◌^◌, ◌<◌, true, arith, refl}
use Rattle.std.specs.Prelude.{Some, [], ◌∷◌}
use Rattle.rv_decode.specs.declared.instr.Op.TheVariants.{Lui, Addi}
use Rattle.rv_decode.specs.Fields.{bits, opcode, rd, rs1, signed, u_form, i_form}
use Rattle.rv_decode.specs.Table.{instr_of, table, row, funct3, matches, made_by}
use Rattle.rv_decode.proofs.Rows.{matches_found, table_apart}
use Rattle.gen_program.specs.Words.{lui, addi}

-- ---- lui

lui-opcode : (d u : ℕ) → bits (0x37 + d * 2 ^ 7 + u * 2 ^ 12) 0 7 ≡ 0x37
lui-opcode d u = omega arith

lui-rd : (d u : ℕ) → d < 32 → bits (0x37 + d * 2 ^ 7 + u * 2 ^ 12) 7 5 ≡ d
lui-rd d u small = omega arith

lui-upper : (d u : ℕ) → d < 32 → u < 2 ^ 20 → bits (0x37 + d * 2 ^ 7 + u * 2 ^ 12) 12 20 ≡ u
lui-upper d u small fits = omega arith

-- ---- addi

addi-opcode : (d s v : ℕ) → bits (0x13 + d * 2 ^ 7 + s * 2 ^ 15 + v * 2 ^ 20) 0 7 ≡ 0x13
addi-opcode d s v = omega arith

addi-rd : (d s v : ℕ) → d < 32 → bits (0x13 + d * 2 ^ 7 + s * 2 ^ 15 + v * 2 ^ 20) 7 5 ≡ d
addi-rd d s v small = omega arith

addi-funct3 : (d s v : ℕ) → d < 32 → bits (0x13 + d * 2 ^ 7 + s * 2 ^ 15 + v * 2 ^ 20) 12 3 ≡ 0
addi-funct3 d s v small = omega arith

addi-rs1 : (d s v : ℕ) → d < 32 → s < 32 → bits (0x13 + d * 2 ^ 7 + s * 2 ^ 15 + v * 2 ^ 20) 15 5 ≡ s
addi-rs1 d s v small low = omega arith

addi-immediate : (d s v : ℕ) → d < 32 → s < 32 → v < 2 ^ 12 → bits (0x13 + d * 2 ^ 7 + s * 2 ^ 15 + v * 2 ^ 20) 20 12 ≡ v
addi-immediate d s v small low fits = omega arith

-- ---- a word whose fields are known

is_lui : (w d u : ℕ) → opcode w ≡ 0x37 → rd w ≡ d → bits w 12 20 ≡ u → instr_of w ≡ Some (record { op = Lui; rd = d; rs1 = 0; rs2 = 0; imm = signed 32 (u * 2 ^ 12) })
unfolding instr_of
is_lui w d u op is_rd is_imm =
    let here : matches w (row u_form 0x37 Lui []) ≡ true = rw op refl in
    let made : made_by w (row u_form 0x37 Lui []) ≡ record { op = Lui; rd = d; rs1 = 0; rs2 = 0; imm = signed 32 (u * 2 ^ 12) } = rw (is_rd, is_imm) refl in
    matches_found w table _ table_apart (0, row u_form 0x37 Lui [], omega arith, refl, (here, made))

is_addi : (w d s v : ℕ) → opcode w ≡ 0x13 → bits w 12 3 ≡ 0 → rd w ≡ d → rs1 w ≡ s → bits w 20 12 ≡ v → instr_of w ≡ Some (record { op = Addi; rd = d; rs1 = s; rs2 = 0; imm = signed 12 v })
unfolding instr_of
is_addi w d s v op is_funct is_rd is_rs1 is_imm =
    let here : matches w (row i_form 0x13 Addi (funct3 0 ∷ [])) ≡ true = rw (op, is_funct) refl in
    let made : made_by w (row i_form 0x13 Addi (funct3 0 ∷ [])) ≡ record { op = Addi; rd = d; rs1 = s; rs2 = 0; imm = signed 12 v } = rw (is_rd, is_rs1, is_imm) refl in
    matches_found w table _ table_apart (21, row i_form 0x13 Addi (funct3 0 ∷ []), omega arith, refl, (here, made))

-- ---- the words

pub instr_of-lui : (d u : ℕ) → d < 32 → u < 2 ^ 20 → instr_of (lui d u) ≡ Some (record { op = Lui; rd = d; rs1 = 0; rs2 = 0; imm = signed 32 (u * 2 ^ 12) })
unfolding lui
instr_of-lui d u small fits = is_lui _ d u (lui-opcode d u) (lui-rd d u small) (lui-upper d u small fits)

pub instr_of-addi : (d s v : ℕ) → d < 32 → s < 32 → v < 2 ^ 12 → instr_of (addi d s v) ≡ Some (record { op = Addi; rd = d; rs1 = s; rs2 = 0; imm = signed 12 v })
unfolding addi
instr_of-addi d s v small low fits = is_addi _ d s v (addi-opcode d s v) (addi-funct3 d s v small) (addi-rd d s v small) (addi-rs1 d s v small low) (addi-immediate d s v small low fits)

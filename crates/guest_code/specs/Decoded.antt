-- Decoded instructions.
use Rattle.std.specs.Prelude.{◌≡◌, ℕ, ◌+◌, ◌*◌, ◌<◌, Bool, true, false, List, length, slice_index_or, Option, Some, None, option_and_then, unwrap_or}
use Rattle.rv_decode.specs.declared.instr.Instr.{Instr}
use Rattle.rv_decode.specs.declared.instr.Op.{Op}
use Rattle.rv_decode.specs.declared.instr.Op.TheVariants.{Ebreak}
use Rattle.rv_decode.specs.Table.{instr_of, IsInstr}
use Rattle.elf_image.specs.File.{word_at}

-- the instruction at an address of the file's memory, if there is one
abbrev pub instr_at : List ℕ → ℕ → Option Instr
instr_at file pc = option_and_then instr_of (word_at file pc)

-- it stands where no instruction does
abbrev pub breakpoint : Instr
breakpoint = record { op = Ebreak; rd = 0; rs1 = 0; rs2 = 0; imm = Rattle.std.specs.Prelude.pos 0 }

abbrev pub decoded_of : Option ℕ → Instr
decoded_of word = unwrap_or (option_and_then instr_of word) breakpoint

-- a table of the instructions from an address on
pub record AreDecoded (file : List ℕ) (start : ℕ) (instrs : List Instr) : Type 0 where
  pub instrs_at : (k : ℕ) (d : Instr) → k < length instrs → slice_index_or instrs k d ≡ unwrap_or (instr_at file (start + 4 * k)) breakpoint
  pub are_instrs : (k : ℕ) (d : Instr) → k < length instrs → IsInstr (slice_index_or instrs k d)

abbrev pub is_break : Op → Bool
is_break Ebreak = true
is_break _ = false

-- the file's instruction at an address
pub record IsKnown (file : List ℕ) (pc : ℕ) (instr : Instr) : Type 0 where
  pub instr_is : instr_at file pc ≡ Some instr
  pub is_instr : IsInstr instr

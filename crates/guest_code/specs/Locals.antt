-- Instructions in a row that touch registers alone.
use Rattle.std.specs.Prelude.{ℕ, zero, suc, List, Option, Some, None, option_and_then}
use Rattle.rv_decode.specs.declared.instr.Instr.{Instr}
use Rattle.rv_exec.specs.declared.exec.Effect.{Effect}
use Rattle.rv_exec.specs.declared.exec.Effect.TheVariants.{Local}
use Rattle.rv_exec.specs.Registers.{Registers}
use Rattle.rv_exec.specs.Meaning.{done_by, Done}
use Rattle.guest_code.specs.Decoded.{instr_at}

-- the registers that it leaves, where it touches nothing else
abbrev pub registers_where : Effect → Registers → Option Registers
registers_where Local r = Some r
registers_where _ r = None

abbrev pub registers_of : Done → Option Registers
registers_of d = registers_where d.effect d.registers

-- the registers after the instruction at their pc, where that touches nothing else
abbrev pub local : List ℕ → Registers → Option Registers
local file r = option_and_then (λ (i : Instr). registers_of (done_by i.op i r)) (instr_at file r.pc)

-- the registers after so many such instructions
unfoldable pub locals : List ℕ → ℕ → Registers → Option Registers
locals file zero r = Some r
locals file (suc n) r = option_and_then (local file) (locals file n r)

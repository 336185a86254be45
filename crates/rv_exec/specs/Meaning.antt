-- What each instruction does, one row an instruction, after the RISC-V unprivileged manual (RV64I, M and A).
use Rattle.std.specs.Prelude.{◌≡◌, ℕ, ◌+◌, ◌-◌, ◌%◌, ◌^◌, ◌==◌, not, nat_lt, Bool, false, if◌then◌else◌, int_lt, bit_and, bit_or, bit_xor}
use Rattle.std.specs.Int.{Width, w8, w16, w32, w64, cast_signed, cast_unsigned}
use Rattle.rv_decode.specs.declared.instr.Op.{Op}
use Rattle.rv_decode.specs.declared.instr.Op.TheVariants as ops
use Rattle.rv_decode.specs.declared.instr.Instr.{Instr}
use Rattle.rv_exec.specs.declared.exec.Effect.{Effect}
use Rattle.rv_exec.specs.declared.exec.Effect.TheVariants.{Local, Load, Store, Amo, Reserve, Conditional, Call, Fault}
use Rattle.rv_exec.specs.declared.fault.GuestFault.TheVariants.{Misaligned, Break}
use Rattle.rv_exec.specs.Registers.{Registers, value, put, at_pc}
use Rattle.rv_exec.specs.Words.{wrap, signed, low_bytes, extend, add, sub, shift_left, shift_right, shift_right_signed, less, less_unsigned, add_w, sub_w, shift_left_w, shift_right_w, shift_right_signed_w, multiply, multiply_high, multiply_high_mixed, multiply_high_unsigned, divide, divide_unsigned, remainder, remainder_unsigned, multiply_w, divide_w, divide_unsigned_w, remainder_w, remainder_unsigned_w}

-- Ways in which an instruction acts. rs1 and rs2 stand for the words in those registers, imm for the immediate as a word, and all sums are modulo 2^64.
pub data Meaning : Type 0 where
  -- rd gets the immediate
  constant : Meaning
  -- rd gets pc + imm
  relative : Meaning
  -- rd gets pc + 4, and pc + imm is next
  jump : Meaning
  -- the same with rs1 + imm, its bit 0 cleared
  jump_register : Meaning
  -- pc + imm is next where this holds of rs1 and rs2
  branch : (ℕ → ℕ → Bool) → Meaning
  -- rd gets this of rs1 and imm
  with_immediate : (ℕ → ℕ → ℕ) → Meaning
  -- rd gets this of rs1 and rs2
  with_register : (ℕ → ℕ → ℕ) → Meaning
  -- rd gets so many bytes at rs1 + imm, extended so
  load : ℕ → (ℕ → ℕ) → Meaning
  -- so many bytes at rs1 + imm get the low bytes of rs2
  store : ℕ → Meaning
  -- rd gets so many bytes at rs1, extended so, and the address is reserved
  reserve : ℕ → (ℕ → ℕ) → Meaning
  -- so many bytes at rs1 get the low bytes of rs2 where the reservation stands; rd tells whether
  conditional : ℕ → Meaning
  -- rd gets so many bytes at rs1, extended so, and this of them and the low bytes of rs2 is stored
  atomic : ℕ → (ℕ → ℕ) → (ℕ → ℕ → ℕ) → Meaning
  -- FENCE, ECALL and EBREAK
  nothing : Meaning
  call : Meaning
  stop : Meaning

abbrev pub unextended : ℕ → ℕ
unextended n = n

-- what atomic operations store, on numbers of so many bits
abbrev pub add_at : ℕ → ℕ → ℕ → ℕ
add_at n old arg = (old + arg) % 2 ^ n

abbrev pub least : Width → ℕ → ℕ → ℕ
least w old arg = if int_lt (cast_signed w old) (cast_signed w arg) then old else arg

abbrev pub greatest : Width → ℕ → ℕ → ℕ
greatest w old arg = if int_lt (cast_signed w old) (cast_signed w arg) then arg else old

abbrev pub meaning : Op → Meaning
meaning ops.Lui = constant
meaning ops.Auipc = relative
meaning ops.Jal = jump
meaning ops.Jalr = jump_register
meaning ops.Beq = branch (λ a b. a == b)
meaning ops.Bne = branch (λ a b. not (a == b))
meaning ops.Blt = branch (λ a b. int_lt (signed a) (signed b))
meaning ops.Bge = branch (λ a b. not (int_lt (signed a) (signed b)))
meaning ops.Bltu = branch (λ a b. nat_lt a b)
meaning ops.Bgeu = branch (λ a b. not (nat_lt a b))
meaning ops.Lb = load 1 (extend w8)
meaning ops.Lh = load 2 (extend w16)
meaning ops.Lw = load 4 (extend w32)
meaning ops.Ld = load 8 unextended
meaning ops.Lbu = load 1 unextended
meaning ops.Lhu = load 2 unextended
meaning ops.Lwu = load 4 unextended
meaning ops.Sb = store 1
meaning ops.Sh = store 2
meaning ops.Sw = store 4
meaning ops.Sd = store 8
meaning ops.Addi = with_immediate add
meaning ops.Slti = with_immediate less
meaning ops.Sltiu = with_immediate less_unsigned
meaning ops.Xori = with_immediate bit_xor
meaning ops.Ori = with_immediate bit_or
meaning ops.Andi = with_immediate bit_and
meaning ops.Slli = with_immediate shift_left
meaning ops.Srli = with_immediate shift_right
meaning ops.Srai = with_immediate shift_right_signed
meaning ops.Addiw = with_immediate add_w
meaning ops.Slliw = with_immediate shift_left_w
meaning ops.Srliw = with_immediate shift_right_w
meaning ops.Sraiw = with_immediate shift_right_signed_w
meaning ops.Add = with_register add
meaning ops.Sub = with_register sub
meaning ops.Sll = with_register shift_left
meaning ops.Slt = with_register less
meaning ops.Sltu = with_register less_unsigned
meaning ops.Xor = with_register bit_xor
meaning ops.Srl = with_register shift_right
meaning ops.Sra = with_register shift_right_signed
meaning ops.Or = with_register bit_or
meaning ops.And = with_register bit_and
meaning ops.Mul = with_register multiply
meaning ops.Mulh = with_register multiply_high
meaning ops.Mulhsu = with_register multiply_high_mixed
meaning ops.Mulhu = with_register multiply_high_unsigned
meaning ops.Div = with_register divide
meaning ops.Divu = with_register divide_unsigned
meaning ops.Rem = with_register remainder
meaning ops.Remu = with_register remainder_unsigned
meaning ops.Addw = with_register add_w
meaning ops.Subw = with_register sub_w
meaning ops.Sllw = with_register shift_left_w
meaning ops.Srlw = with_register shift_right_w
meaning ops.Sraw = with_register shift_right_signed_w
meaning ops.Mulw = with_register multiply_w
meaning ops.Divw = with_register divide_w
meaning ops.Divuw = with_register divide_unsigned_w
meaning ops.Remw = with_register remainder_w
meaning ops.Remuw = with_register remainder_unsigned_w
meaning ops.Fence = nothing
meaning ops.Ecall = call
meaning ops.Ebreak = stop
meaning ops.LrW = reserve 4 (extend w32)
meaning ops.ScW = conditional 4
meaning ops.AmoswapW = atomic 4 (extend w32) (λ old arg. arg)
meaning ops.AmoaddW = atomic 4 (extend w32) (add_at 32)
meaning ops.AmoxorW = atomic 4 (extend w32) bit_xor
meaning ops.AmoandW = atomic 4 (extend w32) bit_and
meaning ops.AmoorW = atomic 4 (extend w32) bit_or
meaning ops.AmominW = atomic 4 (extend w32) (least w32)
meaning ops.AmomaxW = atomic 4 (extend w32) (greatest w32)
meaning ops.AmominuW = atomic 4 (extend w32) (λ old arg. if nat_lt old arg then old else arg)
meaning ops.AmomaxuW = atomic 4 (extend w32) (λ old arg. if nat_lt old arg then arg else old)
meaning ops.LrD = reserve 8 unextended
meaning ops.ScD = conditional 8
meaning ops.AmoswapD = atomic 8 unextended (λ old arg. arg)
meaning ops.AmoaddD = atomic 8 unextended (add_at 64)
meaning ops.AmoxorD = atomic 8 unextended bit_xor
meaning ops.AmoandD = atomic 8 unextended bit_and
meaning ops.AmoorD = atomic 8 unextended bit_or
meaning ops.AmominD = atomic 8 unextended (least w64)
meaning ops.AmomaxD = atomic 8 unextended (greatest w64)
meaning ops.AmominuD = atomic 8 unextended (λ old arg. if nat_lt old arg then old else arg)
meaning ops.AmomaxuD = atomic 8 unextended (λ old arg. if nat_lt old arg then arg else old)

-- ---- what `begin` does

abbrev pub immediate : Instr → ℕ
immediate i = cast_unsigned w64 i.imm

-- the registers after an instruction, and what it asks for beside them
pub record Done : Type 0 where
  pub registers : Registers
  pub effect : Effect

-- the next instruction follows
abbrev pub next : Registers → Registers
next r = at_pc r (wrap (r.pc + 4))

-- rd gets a word, and the next instruction follows
abbrev pub writes : Registers → ℕ → ℕ → Done
writes r rd word = record { registers = at_pc (put r rd word) (wrap (r.pc + 4)); effect = Local }

-- memory is asked for, at an address that has to be a multiple of the size; the registers stay
abbrev pub asked : ℕ → ℕ → Effect → Effect
asked addr size effect = if addr % size == 0 then effect else Fault Misaligned

abbrev pub asks : Registers → ℕ → ℕ → Effect → Done
asks r addr size effect = record { registers = r; effect = asked addr size effect }

-- control goes to an address, which has to be a multiple of four
abbrev pub goes_to : Registers → Registers → ℕ → Done
goes_to r after target =
    if target % 4 == 0
    then record { registers = at_pc after target; effect = Local }
    else record { registers = r; effect = Fault Misaligned }

abbrev pub jumps : Registers → ℕ → ℕ → Done
jumps r rd target = goes_to r (put r rd (wrap (r.pc + 4))) target

abbrev pub branches : Registers → Instr → Bool → Done
branches r i taken =
    if taken then goes_to r r (wrap (r.pc + immediate i))
    else record { registers = next r; effect = Local }

-- rs1 + imm
abbrev pub address : Instr → Registers → ℕ
address i r = wrap (value r i.rs1 + immediate i)

abbrev pub begun : Meaning → Instr → Registers → Done
begun constant i r = writes r i.rd (immediate i)
begun relative i r = writes r i.rd (wrap (r.pc + immediate i))
begun jump i r = jumps r i.rd (wrap (r.pc + immediate i))
begun jump_register i r = jumps r i.rd (address i r - address i r % 2)
begun (branch test) i r = branches r i (test (value r i.rs1) (value r i.rs2))
begun (with_immediate f) i r = writes r i.rd (f (value r i.rs1) (immediate i))
begun (with_register f) i r = writes r i.rd (f (value r i.rs1) (value r i.rs2))
begun (load size extended) i r = asks r (address i r) size (Load (address i r) size)
begun (store size) i r = asks r (address i r) size (Store (address i r) size (value r i.rs2))
begun (reserve size extended) i r = asks r (value r i.rs1) size (Reserve (value r i.rs1) size)
begun (conditional size) i r = asks r (value r i.rs1) size (Conditional (value r i.rs1) size (value r i.rs2))
begun (atomic size extended f) i r = asks r (value r i.rs1) size (Amo (value r i.rs1) size (value r i.rs2))
begun nothing i r = record { registers = next r; effect = Local }
begun call i r = record { registers = r; effect = Call }
begun stop i r = record { registers = r; effect = Fault Break }

abbrev pub done_by : Op → Instr → Registers → Done
done_by op i r = begun (meaning op) i r

-- ---- what `finish` does with the value that memory gave

abbrev pub ended : Meaning → Instr → Registers → ℕ → Registers
ended (load size extended) i r given = next (put r i.rd (extended (low_bytes size given)))
ended (reserve size extended) i r given = next (put r i.rd (extended (low_bytes size given)))
ended (conditional size) i r given = next (put r i.rd given)
ended (atomic size extended f) i r given = next (put r i.rd (extended (low_bytes size given)))
ended _ i r given = next r

abbrev pub finished_by : Op → Instr → Registers → ℕ → Registers
finished_by op i r given = ended (meaning op) i r given

-- the operation is one on 4 bytes, or on 8 where `wide` is true
abbrev pub IsAtomic : Meaning → Bool → Type 0
IsAtomic (atomic size extended f) wide = size ≡ (if wide then 8 else 4)
IsAtomic _ wide = ⊥

-- ---- the word that an atomic memory operation stores

abbrev pub stored : Meaning → ℕ → ℕ → ℕ
stored (atomic size extended f) old arg = f (low_bytes size old) (low_bytes size arg)
stored _ old arg = old

abbrev pub stored_by : Op → ℕ → ℕ → ℕ
stored_by op old arg = stored (meaning op) old arg

-- the same for the operations on n bytes alone, of words of n bytes
abbrev pub combined : ℕ → Meaning → ℕ → ℕ → ℕ
combined n (atomic size extended f) old arg = if size == n then f old arg else old
combined n _ old arg = old

-- ---- what an instruction with a result computes of two words

abbrev pub computed : Meaning → ℕ → ℕ → ℕ
computed (with_immediate f) a b = f a b
computed (with_register f) a b = f a b
computed _ a b = 0

-- whether a branch is taken
abbrev pub holds : Meaning → ℕ → ℕ → Bool
holds (branch test) a b = test a b
holds _ a b = false

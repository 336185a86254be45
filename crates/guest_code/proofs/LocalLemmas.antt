-- One more instruction that touches registers alone.
use Rattle.std.proofs.Common.{◌≡◌, ℕ, zero, suc, true, false, ◌+◌, ◌-◌, ◌*◌, ◌/◌, ◌%◌, ◌<◌, ◌≤◌, inl, inr, List, [], ◌∷◌, ◌++◌, length, Option, Some, None, refl, ap, sym, ◌∙◌, subst, arith, add-one, slice_index_or}
use Rattle.std.specs.Prelude.{option_and_then, unwrap_or}
use Rattle.rv_decode.specs.declared.instr.Instr.{Instr}
use Rattle.rv_decode.specs.Table.{IsInstr}
use Rattle.rv_exec.specs.declared.exec.Effect.{Effect}
use Rattle.rv_exec.specs.declared.exec.Effect.TheVariants.{Local}
use Rattle.rv_exec.specs.Registers.{Registers}
use Rattle.rv_exec.specs.Meaning.{done_by, Done}
use Rattle.guest_code.specs.Decoded.{instr_at, breakpoint, is_break, AreDecoded, IsKnown}
use Rattle.guest_code.specs.Locals.{registers_of, local, locals}

-- a breakpoint is none
local_by : (o : Option Instr) (i : Instr) (r q : Registers) → i ≡ unwrap_or o breakpoint → done_by i.op i r ≡ record { registers = q; effect = Local } →
    option_and_then (λ (x : Instr). registers_of (done_by x.op x r)) o ≡ Some q
local_by None i r q is done = absurd (let e : done_by breakpoint.op breakpoint r ≡ record { registers = q; effect = Local } = subst (λ (x : Instr). done_by x.op x r ≡ record { registers = q; effect = Local }) is done in let f = ap (λ (d : Done). d.effect) e in cc)
local_by (Some x) i r q is done = subst (λ (y : Instr). registers_of (done_by y.op y r) ≡ Some q) is (ap registers_of done)

pub one_more : (file : List ℕ) (start pc at made : ℕ) (instrs : List Instr) (d : Instr) (first r q : Registers) → AreDecoded file start instrs → pc ≡ r.pc → start ≤ pc → pc % 4 ≡ start % 4 → at ≡ (pc - start) / 4 →
    at < length instrs → done_by (slice_index_or instrs at d).op (slice_index_or instrs at d) r ≡ record { registers = q; effect = Local } → locals file made first ≡ Some r → locals file (made + 1) first ≡ Some q
unfolding locals
one_more file start pc at made instrs d first r q decoded pc_is above aligned is inside done so_far =
    let place : start + 4 * at ≡ r.pc = omega arith in
    let i = slice_index_or instrs at d in
    let one : local file r ≡ Some q = local_by (instr_at file r.pc) i r q (decoded.instrs_at at d inside ∙ ap (λ (a : ℕ). unwrap_or (instr_at file a) breakpoint) place) done in
    ap (λ (n : ℕ). locals file n first) (add-one made) ∙ (ap (option_and_then (local file)) so_far ∙ one)

-- an instruction that is no breakpoint is the file's
known_by : (o : Option Instr) (i : Instr) → i ≡ unwrap_or o breakpoint → is_break i.op ≡ false → o ≡ Some i
known_by None i is other = absurd (let e : true ≡ false = ap (λ (x : Instr). is_break x.op) (sym is) ∙ other in cc)
known_by (Some x) i is other = ap Some (sym is)

pub known : (file : List ℕ) (start pc at : ℕ) (instrs : List Instr) (d : Instr) → AreDecoded file start instrs → start ≤ pc → pc % 4 ≡ start % 4 → at ≡ (pc - start) / 4 → at < length instrs → is_break (slice_index_or instrs at d).op ≡ false →
    IsKnown file pc (slice_index_or instrs at d)
known file start pc at instrs d decoded above aligned is inside other =
    let place : start + 4 * at ≡ pc = omega arith in
    record {
      instr_is = known_by (instr_at file pc) (slice_index_or instrs at d) (decoded.instrs_at at d inside ∙ ap (λ (a : ℕ). unwrap_or (instr_at file a) breakpoint) place) other;
      is_instr = decoded.are_instrs at d inside;
    }

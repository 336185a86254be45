-- What holds of each effect follows from the ways in which instructions act.
use Rattle.std.proofs.Common.{◌≡◌, ℕ, ◌+◌, ◌%◌, ◌≤◌, arith, refl, Bool, true, false, cond, nat_eq, ◌⊎◌, inl, inr, subst, ◌-◌, ap, sym, ◌∙◌}
use Rattle.std.proofs.lemmas.Bool.{cond_both, eqb-true}
use Rattle.rv_decode.specs.declared.instr.Op.{Op}
use Rattle.rv_decode.specs.declared.instr.Op.TheVariants as ops
use Rattle.rv_decode.specs.declared.instr.Instr.{Instr}
use Rattle.rv_exec.specs.declared.exec.Effect.{Effect}
use Rattle.rv_exec.specs.declared.exec.Effect.TheVariants.{Local, Load, Store, Amo, Reserve, Conditional, Fault}
use Rattle.rv_exec.specs.declared.fault.GuestFault.TheVariants.{Misaligned}
use Rattle.rv_exec.specs.Registers.{Registers, value, put, at_pc}
use Rattle.rv_exec.specs.Words.{wrap}
use Rattle.rv_exec.specs.Effects.{IsSize, IsPlace, IsPlaced, KeepsUnlessDone, TellsAtomic}
use Rattle.rv_exec.specs.Meaning.{Meaning, Done, goes_to, branches, immediate, address, constant, relative, jump, jump_register, branch, with_immediate, with_register, load, store, reserve, conditional, atomic, nothing, call, stop, meaning, begun, done_by, asked}

within : (addr size : ℕ) → IsSize size → addr % size ≡ 0 → addr % 8 + size ≤ 8
within addr size (inl e) h = omega arith
within addr size (inr (inl e)) h = let m : addr % 2 ≡ 0 = subst (λ (n : ℕ). addr % n ≡ 0) e h in omega arith
within addr size (inr (inr (inl e))) h = let m : addr % 4 ≡ 0 = subst (λ (n : ℕ). addr % n ≡ 0) e h in omega arith
within addr size (inr (inr (inr e))) h = let m : addr % 8 ≡ 0 = subst (λ (n : ℕ). addr % n ≡ 0) e h in omega arith

place : (addr size : ℕ) → IsSize size → addr % size ≡ 0 → IsPlace addr size
place addr size is e = record { known = is; multiple = e; within = within addr size is e }

-- what is asked for stands only at a multiple of its size
asked_placed : (addr size : ℕ) (effect : Effect) → (addr % size ≡ 0 → IsPlaced effect) → IsPlaced (asked addr size effect)
asked_placed addr size effect h =
    cond_both (nat_eq (addr % size) 0) effect (Fault Misaligned) IsPlaced (λ e. h (eqb-true _ _ e)) (λ e. tt)

-- the size that a meaning has is one of the four
abbrev IsSized : Meaning → Type 0
IsSized (load size extended) = IsSize size
IsSized (store size) = IsSize size
IsSized (reserve size extended) = IsSize size
IsSized (conditional size) = IsSize size
IsSized (atomic size extended f) = (size ≡ 4) ⊎ (size ≡ 8)
IsSized _ = Unit {0}

sized : (op : Op) → IsSized (meaning op)
sized ops.Lb = inl refl
sized ops.Lbu = inl refl
sized ops.Sb = inl refl
sized ops.Lh = inr (inl refl)
sized ops.Lhu = inr (inl refl)
sized ops.Sh = inr (inl refl)
sized ops.Lw = inr (inr (inl refl))
sized ops.Lwu = inr (inr (inl refl))
sized ops.Sw = inr (inr (inl refl))
sized ops.Ld = inr (inr (inr refl))
sized ops.Sd = inr (inr (inr refl))
sized ops.LrD = inr (inr (inr refl))
sized ops.ScD = inr (inr (inr refl))
sized ops.AmoswapD = inr refl
sized ops.AmoaddD = inr refl
sized ops.AmoxorD = inr refl
sized ops.AmoandD = inr refl
sized ops.AmoorD = inr refl
sized ops.AmominD = inr refl
sized ops.AmomaxD = inr refl
sized ops.AmominuD = inr refl
sized ops.AmomaxuD = inr refl
sized ops.LrW = inr (inr (inl refl))
sized ops.ScW = inr (inr (inl refl))
sized ops.AmoswapW = inl refl
sized ops.AmoaddW = inl refl
sized ops.AmoxorW = inl refl
sized ops.AmoandW = inl refl
sized ops.AmoorW = inl refl
sized ops.AmominW = inl refl
sized ops.AmomaxW = inl refl
sized ops.AmominuW = inl refl
sized ops.AmomaxuW = inl refl
sized _ = tt

two_sizes : (size : ℕ) → (size ≡ 4) ⊎ (size ≡ 8) → IsSize size
two_sizes size (inl e) = inr (inr (inl e))
two_sizes size (inr e) = inr (inr (inr e))

goes_placed : (r after : Registers) (target : ℕ) → IsPlaced (goes_to r after target).effect
goes_placed r after target =
    let goes : Done = record { registers = at_pc after target; effect = Local } in
    let stays : Done = record { registers = r; effect = Fault Misaligned } in
    cond_both (nat_eq (target % 4) 0) goes stays (λ (d : Done). IsPlaced d.effect) (λ e. tt) (λ e. tt)

branches_placed : (r : Registers) (i : Instr) (taken : Bool) → IsPlaced (branches r i taken).effect
branches_placed r i true = goes_placed r r (wrap (r.pc + immediate i))
branches_placed r i false = tt

begun_placed : (m : Meaning) (i : Instr) (r : Registers) → IsSized m → IsPlaced (begun m i r).effect
begun_placed constant i r h = tt
begun_placed relative i r h = tt
begun_placed jump i r h = goes_placed r (put r i.rd (wrap (r.pc + 4))) (wrap (r.pc + immediate i))
begun_placed jump_register i r h = goes_placed r (put r i.rd (wrap (r.pc + 4))) (address i r - address i r % 2)
begun_placed (branch test) i r h = branches_placed r i (test (value r i.rs1) (value r i.rs2))
begun_placed (with_immediate f) i r h = tt
begun_placed (with_register f) i r h = tt
begun_placed (load size extended) i r h = asked_placed (address i r) size (Load (address i r) size) (place (address i r) size h)
begun_placed (store size) i r h = asked_placed (address i r) size (Store (address i r) size (value r i.rs2)) (place (address i r) size h)
begun_placed (reserve size extended) i r h = asked_placed (value r i.rs1) size (Reserve (value r i.rs1) size) (place (value r i.rs1) size h)
begun_placed (conditional size) i r h = asked_placed (value r i.rs1) size (Conditional (value r i.rs1) size (value r i.rs2)) (place (value r i.rs1) size h)
begun_placed (atomic size extended f) i r h = asked_placed (value r i.rs1) size (Amo (value r i.rs1) size (value r i.rs2)) (place (value r i.rs1) size (two_sizes size h))
begun_placed nothing i r h = tt
begun_placed call i r h = tt
begun_placed stop i r h = tt

pub done_placed : (op : Op) (i : Instr) (r after : Registers) (effect : Effect) → done_by op i r ≡ record { registers = after; effect = effect } → IsPlaced effect
done_placed op i r after effect e = subst (λ (d : Done). IsPlaced d.effect) e (begun_placed (meaning op) i r (sized op))

-- ---- what isn't done has changed nothing

abbrev Keeps : Registers → Done → Type 0
Keeps r d = KeepsUnlessDone d.effect r d.registers

goes_keep : (r after : Registers) (target : ℕ) → Keeps r (goes_to r after target)
goes_keep r after target =
    let goes : Done = record { registers = at_pc after target; effect = Local } in
    let stays : Done = record { registers = r; effect = Fault Misaligned } in
    cond_both (nat_eq (target % 4) 0) goes stays (Keeps r) (λ e. tt) (λ e. refl)

asks_keep : (r : Registers) (effect : Effect) → KeepsUnlessDone effect r r
asks_keep r Local = tt
asks_keep r _ = refl

branches_keep : (r : Registers) (i : Instr) (taken : Bool) → Keeps r (branches r i taken)
branches_keep r i true = goes_keep r r (wrap (r.pc + immediate i))
branches_keep r i false = tt

begun_keeps : (m : Meaning) (i : Instr) (r : Registers) → Keeps r (begun m i r)
begun_keeps constant i r = tt
begun_keeps relative i r = tt
begun_keeps jump i r = goes_keep r (put r i.rd (wrap (r.pc + 4))) (wrap (r.pc + immediate i))
begun_keeps jump_register i r = goes_keep r (put r i.rd (wrap (r.pc + 4))) (address i r - address i r % 2)
begun_keeps (branch test) i r = branches_keep r i (test (value r i.rs1) (value r i.rs2))
begun_keeps (with_immediate f) i r = tt
begun_keeps (with_register f) i r = tt
begun_keeps (load size extended) i r = asks_keep r (asked (address i r) size (Load (address i r) size))
begun_keeps (store size) i r = asks_keep r (asked (address i r) size (Store (address i r) size (value r i.rs2)))
begun_keeps (reserve size extended) i r = asks_keep r (asked (value r i.rs1) size (Reserve (value r i.rs1) size))
begun_keeps (conditional size) i r = asks_keep r (asked (value r i.rs1) size (Conditional (value r i.rs1) size (value r i.rs2)))
begun_keeps (atomic size extended f) i r = asks_keep r (asked (value r i.rs1) size (Amo (value r i.rs1) size (value r i.rs2)))
begun_keeps nothing i r = tt
begun_keeps call i r = refl
begun_keeps stop i r = refl

pub done_keeps : (op : Op) (i : Instr) (r after : Registers) (effect : Effect) → done_by op i r ≡ record { registers = after; effect = effect } → KeepsUnlessDone effect r after
done_keeps op i r after effect e = subst (Keeps r) e (begun_keeps (meaning op) i r)

-- ---- an atomic operation is asked for by its instructions alone

four_or_eight : (size : ℕ) → (size ≡ 4) ⊎ (size ≡ 8) → size ≡ cond (nat_eq size 8) 8 4
four_or_eight size (inl e) = e ∙ ap (λ (n : ℕ). cond (nat_eq n 8) 8 4) (sym e)
four_or_eight size (inr e) = e ∙ ap (λ (n : ℕ). cond (nat_eq n 8) 8 4) (sym e)

asked_tells : (m : Meaning) (addr size : ℕ) (effect : Effect) → TellsAtomic m effect → TellsAtomic m (asked addr size effect)
asked_tells m addr size effect h = cond_both (nat_eq (addr % size) 0) effect (Fault Misaligned) (TellsAtomic m) (λ e. h) (λ e. tt)

goes_tell : (m : Meaning) (r after : Registers) (target : ℕ) → TellsAtomic m (goes_to r after target).effect
goes_tell m r after target =
    let goes : Done = record { registers = at_pc after target; effect = Local } in
    let stays : Done = record { registers = r; effect = Fault Misaligned } in
    cond_both (nat_eq (target % 4) 0) goes stays (λ (d : Done). TellsAtomic m d.effect) (λ e. tt) (λ e. tt)

branches_tell : (m : Meaning) (r : Registers) (i : Instr) (taken : Bool) → TellsAtomic m (branches r i taken).effect
branches_tell m r i true = goes_tell m r r (wrap (r.pc + immediate i))
branches_tell m r i false = tt

begun_tells : (m : Meaning) (i : Instr) (r : Registers) → IsSized m → TellsAtomic m (begun m i r).effect
begun_tells constant i r h = tt
begun_tells relative i r h = tt
begun_tells jump i r h = goes_tell jump r (put r i.rd (wrap (r.pc + 4))) (wrap (r.pc + immediate i))
begun_tells jump_register i r h = goes_tell jump_register r (put r i.rd (wrap (r.pc + 4))) (address i r - address i r % 2)
begun_tells (branch test) i r h = branches_tell (branch test) r i (test (value r i.rs1) (value r i.rs2))
begun_tells (with_immediate f) i r h = tt
begun_tells (with_register f) i r h = tt
begun_tells (load size extended) i r h = asked_tells (load size extended) (address i r) size (Load (address i r) size) tt
begun_tells (store size) i r h = asked_tells (store size) (address i r) size (Store (address i r) size (value r i.rs2)) tt
begun_tells (reserve size extended) i r h = asked_tells (reserve size extended) (value r i.rs1) size (Reserve (value r i.rs1) size) tt
begun_tells (conditional size) i r h = asked_tells (conditional size) (value r i.rs1) size (Conditional (value r i.rs1) size (value r i.rs2)) tt
begun_tells (atomic size extended f) i r h =
    asked_tells (atomic size extended f) (value r i.rs1) size (Amo (value r i.rs1) size (value r i.rs2)) (four_or_eight size h)
begun_tells nothing i r h = tt
begun_tells call i r h = tt
begun_tells stop i r h = tt

pub done_tells : (op : Op) (i : Instr) (r after : Registers) (effect : Effect) → done_by op i r ≡ record { registers = after; effect = effect } → TellsAtomic (meaning op) effect
done_tells op i r after effect e = subst (λ (d : Done). TellsAtomic (meaning op) d.effect) e (begun_tells (meaning op) i r (sized op))

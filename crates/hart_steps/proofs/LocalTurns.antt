-- Instructions that touch registers alone are turns that tell nothing.
use Rattle.std.proofs.Common.{◌≡◌, ℕ, zero, suc, ◌<◌, true, Bool, List, [], ◌∷◌, ◌++◌, Option, Some, None, refl, ap, sym, ◌∙◌, subst, arith}
use Rattle.std.specs.Prelude.{option_and_then, if◌then◌else◌}
use Rattle.run_record.specs.declared.event.Event.TheVariants.{Begin}
use Rattle.rv_exec.specs.Registers.{Registers}
use Rattle.guest_code.specs.Locals.{local, locals}
use Rattle.bare_machine.specs.declared.thread.Thread.{Thread}
use Rattle.bare_machine.specs.Step.{with_registers}
use Rattle.bare_machine.specs.Locals.{MakesLocals}
use Rattle.bare_machine.proofs.LocalLaws.{request_local}
use Rattle.place_turns.specs.Places.{Value}
use Rattle.place_turns.specs.Turns.{served}
use Rattle.hart_steps.specs.declared.hart.Hart.{Hart}
use Rattle.hart_steps.specs.Harts.{local_of, turn, leaves, AreLocalTurns, NoTurn, OneMore}

module _ (file : List ℕ) (harts t : ℕ) (v : Value) (h : Hart) where
  abbrev with : Registers → Hart
  with r = record h { thread = with_registers h.thread r }

  module _ (began : h.thread.began ≡ true) where
    one_turn : (q r : Registers) → local file q ≡ Some r → turn file harts t (with q) v ≡ leaves (with r) v []
    one_turn q r is =
        ap (served harts t (local_of (with q)) v (with_registers h.thread q)) (request_local file t (with_registers h.thread q) r is)
        ∙ ap (λ (b : Bool). record { local = record (local_of h) { thread = Some (record h.thread { regs = r; began = true }) }; value = v; told = (if b then [] else Begin ∷ []) ++ [] }) began
        ∙ ap (λ (b : Bool). record { local = record (local_of h) { thread = Some (record h.thread { regs = r; began = b }) }; value = v; told = [] }) (sym began)

    next_turns : (n : ℕ) (r : Registers) → ((q : Registers) → locals file n h.thread.regs ≡ Some q → AreLocalTurns file harts t v h n (with q)) → (o : Option Registers) → locals file n h.thread.regs ≡ o → option_and_then (local file) o ≡ Some r → AreLocalTurns file harts t v h (suc n) (with r)
    next_turns n r so_far None e is = absurd (cc)
    next_turns n r so_far (Some q) e is = OneMore n (with q) (with r) (so_far q e) (one_turn q r is)

    turns_made : (n : ℕ) (r : Registers) → locals file n h.thread.regs ≡ Some r → AreLocalTurns file harts t v h n (with r)
    unfolding locals
    turns_made zero r e = (let f : h.thread.regs ≡ r = cc in subst (λ (x : Registers). AreLocalTurns file harts t v h zero (with x)) f NoTurn)
    turns_made (suc n) r e = next_turns n r (λ q. turns_made n q) (locals file n h.thread.regs) refl e

  local_turns_of : (n : ℕ) (r : Registers) → locals file n h.thread.regs ≡ Some r → (0 < n → h.thread.began ≡ true) → AreLocalTurns file harts t v h n (with r)
  unfolding locals
  local_turns_of zero r e began = (let f : h.thread.regs ≡ r = cc in subst (λ (x : Registers). AreLocalTurns file harts t v h zero (with x)) f NoTurn)
  local_turns_of (suc n) r e began = turns_made (began (omega arith)) (suc n) r e

pub local_turns : (file : List ℕ) (harts t : ℕ) (v : Value) (h : Hart) (n : ℕ) (x : Thread) → MakesLocals file h.thread n x → AreLocalTurns file harts t v h n (record h { thread = x })
local_turns file harts t v h n x made =
    subst (λ (y : Thread). AreLocalTurns file harts t v h n (record h { thread = y })) (sym made.thread) (local_turns_of file harts t v h n x.regs made.registers made.began)

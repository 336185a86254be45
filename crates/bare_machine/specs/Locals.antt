-- Steps that touch registers alone.
use Rattle.std.specs.Prelude.{◌≡◌, ◌<◌, ℕ, zero, suc, true, false, List, [], Some, None}
use Rattle.guest_code.specs.Locals.{locals}
use Rattle.bare_machine.specs.declared.thread.Thread.{Thread}
use Rattle.bare_machine.specs.World.{World}
use Rattle.bare_machine.specs.Step.{step, with_registers}
use Rattle.bare_machine.specs.Preview.{needs_slot}

-- a step of the thread without events and without an object, for which it needs no slot
pub record IsLocalStep (file : List ℕ) (tid : ℕ) (old new : World) : Type 0 where
  pub step_is : step file old tid ≡ record { world = new; events = []; object = None }
  pub needless : needs_slot file old tid ≡ false
  pub memory_stays : new.memory ≡ old.memory

-- so many of these in a row
pub data AreLocalSteps (file : List ℕ) (tid : ℕ) (first : World) : ℕ → World → Type 0 where
  NoStep : AreLocalSteps file tid first zero first
  OneMore : (n : ℕ) (old new : World) → AreLocalSteps file tid first n old → IsLocalStep file tid old new → AreLocalSteps file tid first (suc n) new

-- The thread makes so many instructions of the file that touch its registers alone. Its first instruction is none of them.
pub record MakesLocals (file : List ℕ) (old : Thread) (n : ℕ) (new : Thread) : Type 0 where
  pub thread : new ≡ with_registers old new.regs
  pub registers : locals file n old.regs ≡ Some new.regs
  pub began : 0 < n → old.began ≡ true

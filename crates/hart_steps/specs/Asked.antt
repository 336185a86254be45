-- Which requests each call serves, and a thread that has asked.
use Rattle.std.specs.Prelude.{◌≡◌, ℕ, List}
use Rattle.bare_machine.specs.declared.request.Request.{Request}
use Rattle.bare_machine.specs.declared.request.Request.TheVariants as kinds
use Rattle.bare_machine.specs.Requests as requests
use Rattle.bare_machine.specs.Step.{with_registers}
use Rattle.bare_machine.specs.Asked.{asked, Keeps}
use Rattle.hart_steps.specs.declared.hart.Hart.{Hart}

-- The thread has asked: unless its instruction is done, it is as it was.
pub record Asks (file : List ℕ) (t : ℕ) (old new : Hart) (r : Request) : Type 0 where
  pub hart : new ≡ record old { thread = with_registers old.thread new.thread.regs }
  pub value : asked new.thread.regs r ≡ requests.request file t old.thread
  pub kept : Keeps r old.thread new.thread

-- the place of a request's object is left as it is, if there is one
abbrev pub IsAlone : Request → Type 0
IsAlone kinds.Done = Unit {0}
IsAlone (kinds.Return r) = Unit {0}
IsAlone _ = ⊥

-- the request uses a granule
abbrev pub UsesGranule : Request → Type 0
UsesGranule (kinds.Touch r) = Unit {0}
UsesGranule (kinds.Operate r) = Unit {0}
UsesGranule _ = ⊥

abbrev pub granule_in : Request → ℕ
granule_in (kinds.Touch r) = r.granule
granule_in (kinds.Operate r) = r.granule
granule_in _ = 0

-- the request changes the desk, or what is answered is told there
abbrev pub UsesDesk : Request → Type 0
UsesDesk (kinds.Put word count) = Unit {0}
UsesDesk (kinds.Create pc argument stack) = Unit {0}
UsesDesk (kinds.Join of) = Unit {0}
UsesDesk (kinds.Stop end) = Unit {0}
UsesDesk _ = ⊥

-- Requests that are served at the desk.
use Rattle.std.proofs.Common.{◌≡◌, ℕ, Bool, List, Option, sym, ap, subst, ◌∙◌}
use Rattle.run_record.specs.declared.event.Event.{Event}
use Rattle.bare_machine.specs.Requests.{request}
use Rattle.place_turns.specs.Turns.{served}
use Rattle.bare_machine.specs.declared.request.Request.{Request}
use Rattle.hart_steps.specs.declared.hart.Hart.{Hart}
use Rattle.machine_desk.specs.declared.MachineDesk.{MachineDesk}
use Rattle.machine_desk.specs.Desks.{is_full}
use Rattle.bare_machine.specs.Asked.{asked}
use Rattle.hart_steps.specs.Harts.{local_of, turn, leaves}
use Rattle.hart_steps.specs.Desks.{desk_value, lives_after, IsToldOf}

module _ (t harts : ℕ) (h : Hart) (d : MachineDesk) (living : ℕ) (joined : Option Bool) (new : Hart) (d' : MachineDesk) (es : List Event) where
  abbrev full : Bool
  full = is_full harts living d.made

  -- a request is served from this state to the other
  abbrev pub Serves : Request → Type 0
  Serves r = (file : List ℕ) (lives : List Bool) → asked h.thread.regs r ≡ request file t h.thread → IsToldOf r lives living joined →
      turn file harts t h (desk_value d lives) ≡ leaves new (desk_value d' (lives_after t full r lives)) es

  -- where that one is served so
  pub serves : (r one : Request) → r ≡ one →
      ((lives : List Bool) → IsToldOf one lives living joined → served harts t (local_of h) (desk_value d lives) h.thread (asked h.thread.regs one) ≡ leaves new (desk_value d' (lives_after t full one lives)) es) →
      Serves r
  serves r one is made = subst Serves (sym is) (λ file lives e told. ap (served harts t (local_of h) (desk_value d lives) h.thread) (sym e) ∙ made lives told)

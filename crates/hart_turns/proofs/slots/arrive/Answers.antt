use Rattle.std.proofs.Common.{Option, [], ap, sym, ◌∙◌}
use Rattle.place_turns.specs.Turns.{Turned, arrived}
use Rattle.hart_steps.specs.declared.hart.Hart.{Hart}
use Rattle.hart_steps.specs.Desks.{desk_with}
use Rattle.hart_turns.specs.Slots.{local_in}
use Rattle.hart_turns.proofs.slots.arrive.Goals as goal

pub returns-in-None-clause-hart : goal.returns-in-None-clause-hart
returns-in-None-clause-hart c = λ lives.
    ap (λ (o : Turned). o.local) (sym (c.arrive.ensures [] 0 lives))
    ∙ ap (λ (o : Option Hart). arrived c.args.tid (local_in o) (desk_with c.args.desk.now.machine lives) (local_in o).thread) (sym c.in-None.is)

-- Where an instruction is made.
use Rattle.bare_machine.specs.declared.request.Request.{Request}
use Rattle.hart_steps.specs.Asked.{UsesDesk}
use Rattle.hart_turns.specs.Serves.{UsesStripe}
use Rattle.hart_turns.specs.Makes.{UsesNothing}
use Rattle.part_workers.specs.declared.turn.Place.{Place}
use Rattle.part_workers.specs.declared.turn.Place.TheVariants.{Nowhere, Stripe, Desk}

-- the request uses no object, that stripe, or the desk
abbrev pub IsMadeAt : Request → Place → Type 0
IsMadeAt r Nowhere = UsesNothing r
IsMadeAt r (Stripe number) = UsesStripe number r
IsMadeAt r Desk = UsesDesk r

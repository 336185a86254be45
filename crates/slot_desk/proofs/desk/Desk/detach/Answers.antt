use Rattle.std.proofs.Common.{ap, sym, ◌∙◌, arith}
use Rattle.std.proofs.Math.ListN.{length-set}
use Rattle.slot_desk.specs.Desks.{no_slot}
use Rattle.slot_desk.specs.Steps.{spent_slot}
use Rattle.slot_desk.proofs.DeskLists.{read_at}
use Rattle.slot_desk.proofs.InsideLaws.{held_at}
use Rattle.slot_desk.proofs.KeptLaws.{kept_detach}
use Rattle.slot_desk.proofs.desk.Desk.detach.Goals as goal

pub index_mut-slot-requires : goal.index_mut-slot-requires
index_mut-slot-requires c =
    let holds = rw (← c.self.view_is) at (sym c.held.ensures.value ∙ c.in-Some.is) in
    let held = (held_at c.self.inside c.args.tid c.in-Some.sid c.in-Some.field-0-1 c.self.invariant holds).within in
    omega (arith, c.self.inside.slots.ok.0)

pub invariant_of-self : goal.invariant_of-self
invariant_of-self c =
    let d = c.self.inside in
    let holds = rw (← c.self.view_is) at (sym c.held.ensures.value ∙ c.in-Some.is) in
    let held = held_at d c.args.tid c.in-Some.sid c.in-Some.field-0-1 c.self.invariant holds in
    let here = read_at d.slots.items c.in-Some.sid c.index_mut-slot.result.now no_slot held.within c.index_mut-slot.ensures.value in
    let lives = rw (← c.self.view_is) at c.requires.live in (
      kept_detach d.harts d.greatest d.made d.live d.era d.threads.items d.slots.items d.queue.items c.args.tid c.in-Some.sid c.in-Some.field-0-1 c.spend.new.self c.self.invariant.0 lives holds (c.spend.ensures ∙ ap spent_slot here),
      rw length-set c.self.invariant.1,
    )
